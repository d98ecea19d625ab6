-- What `plan_of` makes of a job and leaves in the lent work slice, and how the angles are read off the cuts there, one at a time.
use Rattle.std.specs.Prelude.{Option, Some, None, IfSome}
use Rattle.std.specs.Prelude.{◌≡◌, ◌⊎◌, not, cond, List, [], ◌∷◌, ◌++◌, ℕ, ◌+◌, ◌^◌, ◌≤◌, T, leb, length, slice_get, take, drop, replicate, Float}
use Rattle.std.specs.Option.{option_map}
use Rattle.std.specs.Float.{binary64}
use Rattle.std.specs.Float.Ieee.{neg, is_nan, fits}
use Rattle.std.specs.Float.Ieee.Scale.{finite}
use Rattle.float.specs.Number.{zero_float, one_float}
use Rattle.float.specs.Promises.Order.{Within}
use Rattle.polynomial.specs.Angle.{two_pi}
use Rattle.sampling.specs.Samples.{three_samples}
use Rattle.sampling.specs.SampleAngles.{first_cuts, second_cuts, third_cuts}
use Rattle.sampling.specs.J1j2free.{folded, first_half, second_half, on_interval}
use Rattle.sampling.specs.Angles.{first_free, second_free, by_kind, cut_count}
use Rattle.sampling.specs.Limits.{limits}
use Rattle.sampling.specs.Promises.Charts.{Charted}
use Rattle.sampling.specs.Promises.Stream.{Step, distinct, next, Woven}
use Rattle.sampling.specs.declared.j1j2free.Folded.{Folded}
use Rattle.sampling.specs.declared.job.Job.{Job}
use Rattle.sampling.specs.declared.job.Joint.{Joint}
use Rattle.sampling.specs.declared.job.Kind.TheVariants.{J1j2free}
use Rattle.sampling.specs.declared.lists.Lists.{Lists}
use Rattle.sampling.specs.declared.lists.Halves.{Halves}
use Rattle.sampling.specs.declared.lists.Plan.{Plan}
use Rattle.sampling.specs.declared.lists.Plan.TheVariants as of
use Rattle.sampling.specs.declared.sample_angles.Free.{Free}
use Rattle.sampling.specs.declared.stream.Cursor.{Cursor}

-- a joint whose sign, offset and reference are as 01 allows them where they are read
pub record Moderate (j : Joint) : Type 0 where
  pub sign : (j.sign ≡ one_float) ⊎ (j.sign ≡ neg one_float)
  pub offset : Within two_pi j.offset
  pub reference : T (finite j.reference)

-- two free joints: both halves of joint 1's interval have charts that the root finder takes
abbrev pub Drawable : Job → Type 0
Drawable job = job.kind ≡ J1j2free → Charted (limits job.limited job.j1)

-- ---- the cuts: three lists of one free joint, both halves' of two

abbrev pub lists_of : List Float → List Float → List Float → Plan
lists_of a b c = of.Lists (record { first = length a; second = length b; third = length c })

abbrev pub halves_of : Float → List Float → List Float → Plan
halves_of r a b = of.Halves (record { reference = r; first = length a; second = length b })

unfoldable pub free_plan : Free → Plan
free_plan f = lists_of (first_cuts f) (second_cuts f) (third_cuts f)

-- where joint 1 has no interval there is no cut and no angle
unfoldable pub folded_plan : Folded → Plan
folded_plan t = on_interval t.range1 (lists_of [] [] []) (λ lower upper. halves_of t.reference (first_half t lower upper) (second_half t lower upper))

unfoldable pub laid : Job → Plan
laid job = by_kind job.kind (free_plan (first_free job)) (free_plan (second_free job)) (folded_plan (folded job))

-- one list after the other
unfoldable pub free_cuts : Free → List Float
free_cuts f = (first_cuts f ++ second_cuts f) ++ third_cuts f

unfoldable pub folded_cuts : Folded → List Float
folded_cuts t = on_interval t.range1 [] (λ lower upper. first_half t lower upper ++ second_half t lower upper)

unfoldable pub all_cuts : Job → List Float
all_cuts job = by_kind job.kind (free_cuts (first_free job)) (free_cuts (second_free job)) (folded_cuts (folded job))

-- ---- the plan

-- l, if there are places for so many cuts
abbrev pub granted : ℕ → Plan → ℕ → Option Plan
granted count l places = cond (leb count places) (Some l) None

unfoldable pub plan : Job → ℕ → Option Plan
plan job places = granted (cut_count job) (laid job) places

-- short where there is no plan, else found
abbrev pub by_plan : {A : Type 0} → Option Plan → A → A → A
by_plan None short found = short
by_plan (Some p) short found = found

-- how many places the cuts take
abbrev pub filled : Plan → ℕ
filled (of.Lists n) = n.first + n.second + n.third
filled (of.Halves h) = h.first + h.second

-- ---- work

-- n times +0.0
abbrev pub zeros : ℕ → List Float
zeros n = replicate n zero_float

-- l where there are cuts to read, and other where there is no plan
abbrev pub where_laid : Option Plan → List Float → List Float → List Float
where_laid p l other = by_plan p other l

-- a, b and c one after the other in w, which becomes after, where r says that there are places
abbrev pub ListsLaid : List Float → List Float → List Float → List Float → Option Plan → List Float → Type 0
ListsLaid a b c w r after =
    let count = length a + length b + length c in
    (r ≡ granted count (lists_of a b c) (length w)) × IfSome r (λ p. after ≡ ((a ++ b) ++ c) ++ drop count w)

-- the cuts in front, and the rest as it was
unfoldable pub work_after : Job → List Float → List Float
work_after job w = where_laid (plan job (length w)) (all_cuts job ++ drop (cut_count job) w) (zeros (length w))

-- ---- the angles

-- as many cuts, with four samples each, can be counted in a usize
abbrev pub countable : ℕ
countable = 2 ^ 60

-- the samples of three lists of cuts that stand one after the other in w
abbrev pub all_samples : Lists → List Float → List Float
all_samples n w = three_samples (take n.first w) (take n.second (drop n.first w)) (take n.third (drop (n.first + n.second) w))

-- what is still to come at a cursor
abbrev pub to_come : Plan → List Float → Cursor → List Float
to_come (of.Lists n) w c = drop c.i (all_samples n w)
to_come (of.Halves h) w c = distinct (take h.first w) (take h.second (drop h.first w)) h.reference c

-- what is asked of the cuts in w
pub record Streamable (h : Halves) (w : List Float) : Type 0 where
  pub room : h.first + h.second ≤ length w
  pub first : Woven (take h.first w)
  pub second : Woven (take h.second (drop h.first w))
  pub number : T (not (is_nan h.reference))
  pub fit : T (fits binary64 h.reference)

abbrev pub Ready : Plan → List Float → Type 0
Ready (of.Lists n) w = n.first + n.second + n.third ≤ length w
Ready (of.Halves h) w = Streamable h w

-- the sample at the cursor, and the cursor behind it
unfoldable pub sample_step : Lists → List Float → Cursor → Step
sample_step n w c = option_map (λ y. (y, record { i = c.i + 1; j = c.j; used = c.used; last = c.last })) (slice_get (all_samples n w) c.i)

-- the next angle and the cursor behind it, or the end; `Laws.Plan` has that it gives the first of what is to come
abbrev pub step : Plan → List Float → Cursor → Step
step (of.Lists n) w c = sample_step n w c
step (of.Halves h) w c = next (take h.first w) (take h.second (drop h.first w)) h.reference c

-- a step from what was to come, s: its first value, with what is to come at the cursor behind it; or the end
abbrev pub Gives : List Float → (Cursor → List Float) → Step → Type 0
Gives s f None = s ≡ []
Gives s f (Some (y, c)) = s ≡ y ∷ f c
