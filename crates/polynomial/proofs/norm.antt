mod Charted
mod Sides
