mod Largest
