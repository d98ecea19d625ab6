-- `Decimal`: a float in billionths, as the code works it out and writes it. `Sheets`: what is known of a checked sheet.
pub mod Decimal
pub mod Sheets
