-- What a reader must believe of the programs: `Listing`, the texts of `check_sheet` and `make_sheet`; `Pages`, that of `show_pages`. `Laws` says how long a
-- text can be.

pub mod Listing
pub mod Pages
pub mod Laws
