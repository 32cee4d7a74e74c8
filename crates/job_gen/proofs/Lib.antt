mod DataLines
