-- `Lines`: lines one after the other; `Ends`: what each way through gives; `Pages`: the same of pages.

pub mod Lines
pub mod Ends
pub mod Pages
