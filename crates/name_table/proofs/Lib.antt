mod Named
mod Items
mod Found
mod Placed
mod Rebuilt
