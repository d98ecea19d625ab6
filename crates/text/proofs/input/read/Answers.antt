-- A read puts what it gives behind what was read so far.
use Rattle.std.proofs.Common.{◌≡◌, ℕ, ◌+◌, ◌-◌, ◌≤◌, List, ◌++◌, arith, drop, drop_at, le_refl, length, length-take-le, subst, sym, take, take-add, ◌∙◌}
use Rattle.std.proofs.KnownBytes.{Consumes-trans}
use Rattle.std.proofs.lemmas.List.{take-append-le}
use Rattle.std.proofs.lemmas.Slice.{take-put_mid_below}
use Rattle.std.specs.Io.KnownBytes.{Consumes}
use borrow.Rule.Slice.PartMut.{put_mid, post_of}
use Rattle.text.proofs.input.read.Goals as goal

grown : (a k n : ℕ) (xs ys : List ℕ) → a ≤ length xs → n ≤ length ys → take a xs ++ take n ys ≡ take (a + n) (put_mid a k xs ys)
grown a k n xs ys within fits =
    let p = put_mid a k xs ys in
    let front : take a p ≡ take a xs = take-put_mid_below a k xs ys a (le_refl a) within in
    let behind : drop a p ≡ ys ++ post_of a k xs = drop_at (take a xs) (ys ++ post_of a k xs) a (length-take-le a xs within) in
    let more : take n (ys ++ post_of a k xs) ≡ take n ys = take-append-le n ys (post_of a k xs) fits in
    sym (take-add a n p ∙ rw (front, behind, more))

pub loop-done-preserved : goal.loop-done-preserved
loop-done-preserved g c = record {
  within = omega (arith, c.in_ok-more.ensures.bound.0);
  given = subst (Consumes _ _) (grown c.loop-done.done (length c.loop-done.buf - c.loop-done.done) c.in_ok-more.more c.loop-done.buf
      c.read.new.buf c.loop-done.invariant.within c.in_ok-more.ensures.bound.0)
      (Consumes-trans _ _ _ _ _ c.loop-done.invariant.given c.in_ok-more.ensures.bytes.0);
}
