-- Computed examples: `Tried` has 01's poses and curves to try that are marked P, `Kinds` 01's curves with how each root arose, `Editions` names and the
-- editions that a check knows, `Pairs` the order in which curves are taken, `Pages` decimals, lines and pages.
-- They stand in the crate at the top, where every definition is in sight and which has no edits, each of which would compute them again.

mod Tried
mod Kinds
mod Editions
mod Pairs
mod Pages
