-- `Room`: how long a text of `check_sheet` can be. `Pages`: and one of `show_pages`.

pub mod Room
pub mod Pages
