-- An accepted answer is a number of bytes that were lent.
use Prim.Native.Nat.{ℕ, ◌≤◌}
use native.Mathlib.Omega.{arith}
use mathlib.Core.Path.{◌≡◌, sym, ◌∙◌}
use mathlib.Core.List.{List}
use lib.Dec.{leb}
use lib.ListN.{length}
use borrow.Author.Tests.{leb-true}
use Rattle.sheet.specs.Edition.{newest}
use Rattle.sheet.specs.Refusals.{Answer, accepted, refused, need}
use Rattle.sheet.specs.Laws.Tested.{need_holds, need_accepted}
use Rattle.sheet.specs.Check as Check
use Rattle.page.specs.Operation.{text, is_page, laid, by_check, answer, answer_of, decimal_answer}
use Rattle.page.specs.declared.refusals.Refusal.{Refusal}
use Rattle.std.proofs.Common.{◌<◌, ◌^◌, refl, Result, Ok, Err, IfOk}

fit : (m k room n : ℕ) → need (leb m room) k (accepted m) ≡ accepted n → n ≤ room
fit m k room n e =
    let h : m ≤ room = leb-true m room (need_holds (leb m room) k n (accepted m) e) in
    let a : accepted m ≡ accepted n = need_accepted (leb m room) k n (accepted m) e in
    let f : m ≡ n = cc in
    omega arith

behind_check : (a v : Answer) (n : ℕ) → by_check a v ≡ accepted n → v ≡ accepted n
behind_check (accepted m) v n e = e
behind_check (refused k) v n e = let z : ◌≡◌ {A = ℕ} 0 1 = cc in absurd (omega arith)

pub text_fits : (s : List ℕ) (k places room n : ℕ) {v : Answer} → v ≡ answer s k places room → v ≡ accepted n → n ≤ room
unfolding answer laid
text_fits s k places room n a e =
    fit (length (text s k)) 42 room n
    (need_accepted (is_page s k) 43 n _ (behind_check (Check.answer newest s places) (laid s k room) n (sym a ∙ e)))

pub decimal_fits : (room n : ℕ) {v : Answer} → v ≡ decimal_answer room → v ≡ accepted n → n ≤ room
decimal_fits room n a e = fit 16 42 room n (sym a ∙ e)

pub small_page : (s : List ℕ) (k places room : ℕ) (a : Result ℕ Refusal) → answer_of a ≡ answer s k places room → room < 2 ^ 63 → IfOk a (λ n. n < 2 ^ 63)
small_page s k places room (Ok n) e h = let l = text_fits s k places room n e refl in omega arith
small_page s k places room (Err f) e h = tt

pub small_decimal : (room : ℕ) (a : Result ℕ Refusal) → answer_of a ≡ decimal_answer room → room < 2 ^ 63 → IfOk a (λ n. n < 2 ^ 63)
small_decimal room (Ok n) e h = let l = decimal_fits room n e refl in omega arith
small_decimal room (Err f) e h = tt
