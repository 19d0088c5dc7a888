mod Listing
mod Said
