mod Closes
mod Sharing
mod Watches
