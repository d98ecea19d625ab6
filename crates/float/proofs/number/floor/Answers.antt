-- `float::number::floor` meets its contract, by `WholePart`.
use Rattle.std.proofs.Common.{◌≡◌, Bool, true, false, T, ℤ, pos, ◌-ℤ◌, sym, refl, ap, ◌∙◌, subst, w64, SFits, to_z, of_z}
use lib.Ieee.{Float, fin, binary64, neg, le, lt, fits, of_bits, of_int, to_signed}
use lib.Ieee.Casts.{to_signed_in}
use mir.ValLaws.{to_z-of_z}
use Rattle.float.specs.Number.{floor_i64, floor, end_float}
use Rattle.float.specs.Laws.Zero.{zero_bits}
use Rattle.float.proofs.number.WholePart.{stay, step, Stepped}
use Rattle.float.proofs.number.floor.Goals as goal
use Rattle.float.proofs.number.floor.Lts as lts
use Rattle.float.proofs.number.floor.Reads as reads
use Rattle.float.proofs.number.floor.Tie as tie

-- the code's 2 ^ 63
end_is : of_bits binary64 0x43e0_0000_0000_0000 ≡ end_float
unfolding of_bits
end_is = refl

minus_end : neg end_float ≡ fin true 1 (pos 63)
unfolding neg
minus_end = refl

-- what is known between the two ends
module _ (c : goal.Then-x-2) where
  abbrev x : Float
  x = c.args.x

  fitted : T (fits binary64 x)
  fitted = subst T (sym c.well_formed.0.1) tt

  low : T (le (fin true 1 (pos 63)) x)
  low = subst T (sym (ap (λ (v : Float). le v x) (sym minus_end ∙ ap neg (sym end_is)) ∙ c.if-x.true)) tt

  high : T (lt x (fin false 1 (pos 63)))
  high = subst T (sym (ap (λ (v : Float). lt x v) (sym end_is) ∙ c.if-x-2.true)) tt

  inside : floor x ≡ floor_i64 x
  unfolding floor_i64
  inside = sym (simp (sym end_is, c.if-x.true, c.if-x-2.true))

pub truncating_f64_to_i64-whole-requires : goal.truncating_f64_to_i64-whole-requires
truncating_f64_to_i64-whole-requires c = record { lower_bound = low c; upper_bound = high c }

-- the whole part, as the machine reads it back
read : (c : lts.After-truncating_f64_to_i64 tie.the-claims reads.Pre reads.Post tie.handed_clauses)
    → to_z w64 (of_z w64 c.truncating_f64_to_i64-whole.result) ≡ to_signed 63 (x c.before)
read c =
    let e = c.truncating_f64_to_i64-whole.ensures in
    to_z-of_z w64 c.truncating_f64_to_i64-whole.result (subst (λ (z : ℤ). SFits w64 z) (sym e) (record { sfits = to_signed_in 63 (x c.before) })) ∙ e

-- the code's test
tested : (c : lts.After-nearest_i64_to_f64 tie.the-claims reads.Pre reads.Post tie.handed_clauses) (b : Bool)
    → lt (x c.before.before) c.nearest_i64_to_f64.result ≡ b
    → lt (x c.before.before) (of_int binary64 (to_signed 63 (x c.before.before))) ≡ b
tested c b h =
    ap (λ (z : ℤ). lt (x c.before.before) (of_int binary64 z)) (sym (read c.before))
    ∙ ap (λ (v : Float). lt (x c.before.before) v) (sym c.nearest_i64_to_f64.ensures)
    ∙ h

stepped : (c : goal.Then-nearest_i64_to_f64-x) → Stepped (x c.before.before.before)
stepped c = let d = c.before.before.before in step (x d) (fitted d) (low d) (high d) (tested c.before true c.if-nearest_i64_to_f64-x.true)

pub overflow_sub-result : goal.overflow_sub-result
overflow_sub-result c = subst (λ (z : ℤ). SFits w64 (z -ℤ pos 1)) (sym (read c.before.before)) (record { sfits = (stepped c).in_range })

pub returns-then-nearest_i64_to_f64-x : goal.returns-then-nearest_i64_to_f64-x
returns-then-nearest_i64_to_f64-x c = let r = read c.before.before in
    to_z-of_z w64 _ (overflow_sub-result c) ∙ ap (λ (z : ℤ). z -ℤ pos 1) r ∙ (stepped c).one_less ∙ inside c.before.before.before

pub returns-then-x-2 : goal.returns-then-x-2
returns-then-x-2 c =
    let d = c.before.before.before in
    read c.before.before ∙ stay (x d) (fitted d) (low d) (high d) (tested c.before false c.if-nearest_i64_to_f64-x.false) ∙ inside d

pub returns-then-x : goal.returns-then-x
unfolding floor_i64
returns-then-x c = sym (simp (sym end_is, c.if-x.true, c.if-x-2.false))

pub returns-then-x-3 : goal.returns-then-x-3
unfolding floor_i64
returns-then-x-3 c = sym (simp (sym end_is, sym zero_bits, c.if-x.false, c.if-x-3.true))

pub returns : goal.returns
unfolding floor_i64
returns c = sym (simp (sym end_is, sym zero_bits, c.if-x.false, c.if-x-3.false))
