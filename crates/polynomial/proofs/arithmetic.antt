mod Sums
mod Products
