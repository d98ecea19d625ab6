use Rattle.std.proofs.Common.{ℕ, ◌+◌, ◌≡◌, refl, sym, List, [], ◌∷◌, ◌++◌, arith, length, length-append, set, drop}
use Rattle.std.proofs.Math.Seq.{length-sets}
use Rattle.std.proofs.lemmas.List.Edits.{sets}
use Rattle.digits.specs.Decimal.{whole}
use Rattle.digits.specs.Laws.Stores.{joined, stored, stored_in}
use Rattle.text.specs.Numbered.{numbered}
use Rattle.text.proofs.decimal.put_number.Goals as goal

-- word, number and line's end, stored one after the other, are the line
line : (out word : List ℕ) (n k : ℕ) → k ≡ length (whole n)
    → set (sets (sets out 0 word) (length word) (whole n)) (length word + k) 10 ≡ sets out 0 (numbered word n)
line out word n k e =
    rw (joined word (whole n) out 0 (length word) (omega arith), e)
    (joined (word ++ whole n) (10 ∷ []) out 0 (length word + length (whole n)) (simp length-append (omega arith)))

pub returns-clause-out_after : goal.returns-clause-out_after
returns-clause-out_after c =
    let out = c.args.out.now in
    let word = c.args.word.now in
    let d = c.put_decimal.ensures in
    let f : c.copy_from_slice.new.self ++ drop (length word) out ≡ sets out 0 word =
    rw c.copy_from_slice.ensures.after (sym (stored word out (length word) refl (omega arith))) in
    let l : length (sets out 0 word) ≡ length out = length-sets out 0 word in
    rw (d.out_after, f, stored_in (whole c.args.n) (sets out 0 word) (length word) (length (sets out 0 word)) (omega arith) (omega arith))
    (line out word c.args.n c.put_decimal.result d.value)
