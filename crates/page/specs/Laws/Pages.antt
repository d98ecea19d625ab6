-- The pages of a list, one after the other, list each angle once, in order, numbered from 1.
use Rattle.std.specs.Prelude.{ℕ, zero, suc, ◌+◌, ◌*◌, ◌≤◌, ◌≡◌, refl, Bool, true, false, List, [], ◌∷◌, ◌++◌, leb, length, take, drop}
use Rattle.std.proofs.Common.{arith, add-zero, sym, ap, ◌∙◌, append_assoc, drop_of_length-le, take-add, take_all, drop-drop, length-take-le, leb-true}
use Rattle.std.proofs.Common.{leb-false}
use Rattle.std.proofs.Math.Seq.{take-nil}
use Rattle.page.specs.Page.{line, lines, per_page, before_page, on_page, pages}

-- the lines of n pages from page k on, one page after the other, without the names
unfoldable pub lines_on : ℕ → ℕ → List ℕ → List ℕ
lines_on k zero angles = []
lines_on k (suc n) angles = lines (suc (before_page k)) (on_page k angles) ++ lines_on (suc k) n angles

lines_append : (place : ℕ) (a b : List ℕ) → lines place (a ++ b) ≡ lines place a ++ lines (place + length a) b
unfolding lines
lines_append place [] b = rw add-zero
lines_append place (x ∷ a) b =
    let e : place + suc (length a) ≡ suc place + length a = omega arith in
    rw (lines_append (suc place) a b, e) (sym (append_assoc (line place x) (lines (suc place) a) (lines (suc place + length a) b)))

-- n pages from page k on have 60 n of the angles that are left there
pages_from : (n k : ℕ) (angles : List ℕ) → 1 ≤ k → lines_on k n angles ≡ lines (suc (before_page k)) (take (per_page * n) (drop (before_page k) angles))
unfolding lines_on lines on_page
pages_from zero k angles h = refl
pages_from (suc n) k angles h = go (leb per_page (length left)) refl (pages_from n (suc k) angles (omega arith))
  where
    left : List ℕ
    left = drop (before_page k) angles

    after : before_page (suc k) ≡ before_page k + per_page
    after = omega arith

    more : per_page * suc n ≡ per_page + per_page * n
    more = omega arith

    rest : lines_on (suc k) n angles ≡ lines (suc (before_page (suc k))) (take (per_page * n) (drop (before_page (suc k)) angles))
        → lines_on (suc k) n angles ≡ lines (suc (before_page (suc k))) (take (per_page * n) (drop per_page left))
    rest r = r ∙ rw (after, drop-drop per_page (before_page k) angles)

    -- the place goes on behind a full page, and behind one that is not there is none
    place : (b : Bool) → leb per_page (length left) ≡ b
        → lines (suc (before_page (suc k))) (take (per_page * n) (drop per_page left))
        ≡ lines (suc (before_page k) + length (take per_page left)) (take (per_page * n) (drop per_page left))
    place true e =
        let l : length (take per_page left) ≡ per_page = length-take-le per_page left (leb-true per_page (length left) e) in
        let f : suc (before_page k) + per_page ≡ suc (before_page k + per_page) = omega arith in
        rw (l, after, f)
    place false e =
        let s : length left ≤ per_page = omega (arith, leb-false per_page (length left) e) in
        rw (drop_of_length-le left s, take-nil (per_page * n))

    go : (b : Bool) → leb per_page (length left) ≡ b
        → lines_on (suc k) n angles ≡ lines (suc (before_page (suc k))) (take (per_page * n) (drop (before_page (suc k)) angles))
        → lines (suc (before_page k)) (take per_page left) ++ lines_on (suc k) n angles ≡ lines (suc (before_page k)) (take (per_page * suc n) left)
    go b e r =
        rw (rest r, place b e, more, take-add per_page (per_page * n) left)
        (sym (lines_append (suc (before_page k)) (take per_page left) (take (per_page * n) (drop per_page left))))

-- THEOREM: all pages together have the lines of all angles, each once, in order, numbered from 1.
pub all_lines : (angles : List ℕ) → lines_on 1 (pages (length angles)) angles ≡ lines 1 angles
all_lines angles =
    pages_from (pages (length angles)) 1 angles (omega arith)
    ∙ ap (lines 1) (take_all (per_page * pages (length angles)) angles (omega arith))

-- the angles of n pages from page k on
unfoldable pub angles_from : ℕ → ℕ → List ℕ → List ℕ
angles_from k zero angles = []
angles_from k (suc n) angles = on_page k angles ++ angles_from (suc k) n angles

each_from : (n k : ℕ) (angles : List ℕ) → 1 ≤ k → angles_from k n angles ≡ take (per_page * n) (drop (before_page k) angles)
unfolding angles_from on_page
each_from zero k angles h = refl
each_from (suc n) k angles h =
    let left = drop (before_page k) angles in
    let after : before_page (suc k) ≡ before_page k + per_page = omega arith in
    let more : per_page * suc n ≡ per_page + per_page * n = omega arith in
    rw (each_from n (suc k) angles (omega arith), after, more, take-add per_page (per_page * n) left, drop-drop per_page (before_page k) angles)

-- THEOREM: and so with the angles themselves.
pub each_once : (angles : List ℕ) → angles_from 1 (pages (length angles)) angles ≡ angles
each_once angles = each_from (pages (length angles)) 1 angles (omega arith) ∙ take_all (per_page * pages (length angles)) angles (omega arith)
