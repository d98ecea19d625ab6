-- What is printed lies within the text. No tactic is tried where it would compute the room's bytes, of which there are three million.
use Rattle.std.proofs.Common.{ℕ, ◌≡◌, ◌≤◌, List, length, length-take-le, sym, ◌∙◌}
use Rattle.listing.specs.Listing.{printed}
use Rattle.listing.specs.Pages.{pages_text}
use Rattle.listing.specs.Laws.Room.{printed_within}
use Rattle.std.specs.Prelude.{Some}
use Rattle.show_pages.proofs.answer.Goals as goal

-- a text keeps its length
within : (t room text : List ℕ) (n : ℕ) → length text ≡ length room → Some n ≡ printed t (length room) → n ≤ length text
within t room text n e h = rw e (printed_within t (length room) n h)

pub slice_bounds-text-end : goal.slice_bounds-text-end
slice_bounds-text-end c =
    within (pages_text c.args.input.now) c.room-text.result c.pages_text.new.text c.in-Some.n
    c.pages_text.auto.text (sym c.in-Some.is ∙ c.pages_text.ensures.value)

pub slice_bounds-deliver-end : goal.slice_bounds-deliver-end
slice_bounds-deliver-end c =
    sym (length-take-le c.in-Some.n c.pages_text.new.text
    (within (pages_text c.args.input.now) c.room-text.result c.pages_text.new.text c.in-Some.n
    c.pages_text.auto.text (sym c.in-Some.is ∙ c.pages_text.ensures.value)))
