-- Laws of a job's plan, for upper crates: where it is laid, the angles that are read off work are the job's, and
-- they depend on its front alone; how many samples three lists give; a step is the next of them.
use Rattle.std.specs.Prelude.{Option, None, Some, IfSome, ◌≡◌, Bool, not, ℕ, zero, suc, ◌+◌, ◌≤◌, ◌<◌, T, leb, take, drop, get_or, slice_get, Float}
use Rattle.std.proofs.Math.Path.{refl}
use Rattle.std.proofs.Common.{sym, ap, ap₂, subst, ◌∙◌, add-zero, zero-add, suc-add, add-one, arith, le-leb, length-append}
use Rattle.std.proofs.Common.{length-drop, drop_of_length-le, length-take-le, drop-cons, take_at, drop_at, take-take}
use Rattle.std.proofs.Math.Bool.{true, false, cond}
use mathlib.Core.List.{List, [], ◌∷◌, ◌++◌, append_assoc}
use Rattle.std.proofs.Math.ListN.{length}
use Rattle.std.specs.Option.{option_map}
use Rattle.std.proofs.lemmas.Option.{none-some, slice_get_within, get_or_from_slice_get}
use Rattle.std.specs.Float.{nan, binary64}
use Rattle.std.specs.Float.Ieee.{fits, is_nan}
use Rattle.std.specs.Float.Ieee.Fits.{add-fits}
use Rattle.float.specs.Number.{◌⊖◌, ◌⊘◌, middle, two_float}
use Rattle.float.specs.Laws.Tests.{finite_number}
use Rattle.sampling.specs.Samples.{all_between, samples, sample_count, three_samples}
use Rattle.sampling.specs.Slices.{slices}
use Rattle.sampling.specs.SampleAngles as SampleAngles
use Rattle.sampling.specs.J1j2free as J1j2free
use Rattle.sampling.specs.Angles.{first_free, second_free, by_kind, angles, cut_count}
use Rattle.sampling.specs.Promises.Charts.{Charted}
use Rattle.sampling.specs.Promises.Stream.{Step, distinct, start, next, Woven, Steps}
use Rattle.sampling.specs.Promises.Plan.{Moderate, lists_of, halves_of, free_plan, folded_plan, laid, free_cuts, folded_cuts, all_cuts, plan}
use Rattle.sampling.specs.Promises.Plan.{by_plan, filled, zeros, where_laid, work_after, all_samples, to_come, Ready, sample_step, step, Gives}
use Rattle.sampling.proofs.Laws.Charts.{moderate_drawable}
use Rattle.sampling.proofs.Laws.Samples.{samples_length}
use Rattle.sampling.proofs.Laws.J1j2free.{half_fit, half_cuts_are}
use Rattle.sampling.proofs.Laws.Limits.{Ends, limits_ends}
use Rattle.sampling.proofs.Laws.Reference.{reference_fits, reference_number}
use Rattle.sampling.proofs.Laws.Slices.{halves_slices}
use Rattle.sampling.proofs.Laws.SliceBounds.{halves_woven}
use Rattle.sampling.proofs.Laws.Step.{next_steps}
use Rattle.sampling.specs.declared.j1j2free.Folded.{Folded}
use Rattle.sampling.specs.declared.job.Job.{Job}
use Rattle.sampling.specs.declared.job.Kind.{Kind}
use Rattle.sampling.specs.declared.job.Kind.TheVariants.{J1free, J2free, J1j2free}
use Rattle.sampling.specs.declared.lists.Lists.{Lists}
use Rattle.sampling.specs.declared.lists.Plan.{Plan}
use Rattle.sampling.specs.declared.lists.Plan.TheVariants as of
use Rattle.sampling.specs.declared.sample_angles.Free.{Free}
use Rattle.sampling.specs.declared.stream.Cursor.{Cursor}
use Rattle.sampling.specs.Intervals.{Range}

three_length : (a b c : List Float) → length (three_samples a b c) ≡ sample_count (length a) + sample_count (length b) + sample_count (length c)
unfolding three_samples
three_length a b c =
    let s = length-append (samples a ++ samples b) (samples c) in
    let t = length-append (samples a) (samples b) in
    let x = samples_length a in
    let y = samples_length b in
    let z = samples_length c in
    omega arith

pub all_samples_length : (n : Lists) (w : List Float) → n.first + n.second + n.third ≤ length w
    → length (all_samples n w) ≡ sample_count n.first + sample_count n.second + sample_count n.third
all_samples_length n w h =
    let d = length-drop n.first w in
    let e = length-drop (n.first + n.second) w in
    let a = length-take-le n.first w (omega arith) in
    let b = length-take-le n.second (drop n.first w) (omega arith) in
    let c = length-take-le n.third (drop (n.first + n.second) w) (omega arith) in
    three_length (take n.first w) (take n.second (drop n.first w)) (take n.third (drop (n.first + n.second) w)) ∙ rw (a, b, c)

-- the i-th of a list, and what is behind it
pub step_here : (l : List Float) (i : ℕ) → i < length l → drop i l ≡ get_or l i nan ∷ drop (i + 1) l
step_here l i h = rw add-one (drop-cons l i nan h)

-- a step of the stream
gives : (s : List Float) (f : Cursor → List Float) (t : Step) → Steps s f t → Gives s f t
gives s f None e = e
gives s f (Some (y, c)) e = e.0

-- ---- lists that stand one after the other

-- two, whatever stands behind
split : (a b rest : List Float) → (take (length a) ((a ++ b) ++ rest) ≡ a) × (take (length b) (drop (length a) ((a ++ b) ++ rest)) ≡ b)
split a b rest =
    let s = append_assoc a b rest in (
      ap (take (length a)) s ∙ take_at a (b ++ rest) (length a) refl,
      ap (take (length b)) (ap (drop (length a)) s ∙ drop_at a (b ++ rest) (length a) refl) ∙ take_at b rest (length b) refl,
    )

three_parts : (a b c rest : List Float)
    → all_samples (record { first = length a; second = length b; third = length c }) (((a ++ b) ++ c) ++ rest) ≡ three_samples a b c
three_parts a b c rest =
    let s = split a b (c ++ rest) in
    let e = append_assoc (a ++ b) c rest in
    let n : length (a ++ b) ≡ length a + length b = length-append a b in
    let t = (split (a ++ b) c rest).1 in
    rw (← n, t) (rw (e, s.0, s.1))

-- ---- a plan that is laid can be read, and has the angles

-- of the plan l of so many cuts, in work w
record Drawn (count : ℕ) (l : Plan) (cuts s w : List Float) : Type 0 where
  ready : Ready l (cuts ++ drop count w)
  yields : to_come l (cuts ++ drop count w) start ≡ s

three_drawn : (a b c w : List Float) → Drawn (length a + length b + length c) (lists_of a b c) ((a ++ b) ++ c) (three_samples a b c) w
three_drawn a b c w =
    let count = length a + length b + length c in
    let cuts = (a ++ b) ++ c in
    record {
      ready = omega (arith, length-append cuts (drop count w), length-append (a ++ b) c, length-append a b);
      yields = three_parts a b c (drop count w);
    }

-- ---- two free joints

-- both halves' cuts can be streamed, and what the stream has is the slices
record Streams (t : Folded) (lower upper : Float) : Type 0 where
  first : Woven (J1j2free.first_half t lower upper)
  second : Woven (J1j2free.second_half t lower upper)
  number : T (not (is_nan t.reference))
  fit : T (fits binary64 t.reference)
  same : distinct (J1j2free.first_half t lower upper) (J1j2free.second_half t lower upper) t.reference start
      ≡ slices t.reference lower upper (J1j2free.first_half t lower upper) (J1j2free.second_half t lower upper)

-- the limits were pushed into the halves
streams : (t : Folded) (lower upper : Float) → Ends lower upper → Charted (Some (lower, upper)) → T (fits binary64 t.reference)
    → T (not (is_nan t.reference)) → Streams t lower upper
unfolding middle J1j2free.first_half J1j2free.second_half
streams t lower upper e c fit real =
    let m = middle lower upper in
    let fm : T (fits binary64 m) = add-fits binary64 lower ((upper ⊖ lower) ⊘ two_float) in
    let p = half_cuts_are t lower m e.lower_fits fm in
    let q = half_cuts_are t m upper fm e.upper_fits in
    let woven = halves_woven t e c in
    record {
      first = woven.0;
      second = woven.1;
      number = real;
      fit = fit;
      same =
          rw (p, q)
          (halves_slices t.reference lower upper m _ _ _ _ refl refl fit (finite_number lower e.lower_within.real)
          (finite_number upper e.upper_within.real)
          (half_fit t lower m e.lower_fits fm)
          (half_fit t m upper fm e.upper_fits));
    }

two_drawn : (t : Folded) (lower upper : Float) (w : List Float) → Streams t lower upper
    → Drawn (length (J1j2free.first_half t lower upper) + length (J1j2free.second_half t lower upper))
    (halves_of t.reference (J1j2free.first_half t lower upper) (J1j2free.second_half t lower upper))
    (J1j2free.first_half t lower upper ++ J1j2free.second_half t lower upper)
    (slices t.reference lower upper (J1j2free.first_half t lower upper) (J1j2free.second_half t lower upper)) w
two_drawn t lower upper w h =
    let a = J1j2free.first_half t lower upper in
    let b = J1j2free.second_half t lower upper in
    let count = length a + length b in
    let parts = split a b (drop count w) in
    record {
      ready =
          record {
            room = omega (arith, length-append (a ++ b) (drop count w), length-append a b);
            first = subst Woven (sym parts.0) h.first;
            second = subst Woven (sym parts.1) h.second;
            number = h.number;
            fit = h.fit;
          };
      yields = ap₂ (λ (x y : List Float). distinct x y t.reference start) parts.0 parts.1 ∙ h.same;
    }

-- ---- what came of the cuts

-- THEOREM: There is a plan where there are places for the cuts.
pub plan_by : {A : Type 0} (short found : A) (job : Job) (places : ℕ) → by_plan (plan job places) short found ≡ cond (leb (cut_count job) places) found short
unfolding plan
plan_by short found job places = go (leb (cut_count job) places)
  where
    go : (t : Bool) → by_plan (cond t (Some (laid job)) None) short found ≡ cond t found short
    go false = refl
    go true = refl

same_plan : {p q : Plan} → ◌≡◌ {A = Option Plan} (Some p) (Some q) → q ≡ p
same_plan e = cc

-- it is `laid`, and work holds the cuts
laid_of : (job : Job) (w : List Float) (p : Plan) → plan job (length w) ≡ Some p
    → (p ≡ laid job) × (work_after job w ≡ all_cuts job ++ drop (cut_count job) w)
unfolding plan work_after
laid_of job w p e = go (leb (cut_count job) (length w)) e
  where
    go : (t : Bool) → cond t (Some (laid job)) None ≡ Some p
        → (p ≡ laid job)
        × (where_laid (cond t (Some (laid job)) None) (all_cuts job ++ drop (cut_count job) w) (zeros (length w)) ≡ all_cuts job ++ drop (cut_count job) w)
    go false e = absurd (none-some p e)
    go true e = (same_plan e, refl)

-- ---- by the kind

module _ (w : List Float) where
  free_drawn : (f : Free) → Drawn (SampleAngles.cut_count f) (free_plan f) (free_cuts f) (SampleAngles.sample_angles f) w
  unfolding SampleAngles.cut_count free_plan free_cuts SampleAngles.sample_angles
  free_drawn f = three_drawn (SampleAngles.first_cuts f) (SampleAngles.second_cuts f) (SampleAngles.third_cuts f) w

  folded_drawn : (t : Folded) → ((lower upper : Float) → t.range1 ≡ Some (lower, upper) → Streams t lower upper)
      → Drawn (J1j2free.cut_count t) (folded_plan t) (folded_cuts t) (J1j2free.all_slices t) w
  unfolding J1j2free.cut_count folded_plan folded_cuts J1j2free.all_slices three_samples samples all_between
  folded_drawn t h = go t.range1 h
    where
      go : (g : Range) → ((lower upper : Float) → g ≡ Some (lower, upper) → Streams t lower upper)
          → Drawn (J1j2free.on_interval g 0 (λ lower upper. length (J1j2free.first_half t lower upper) + length (J1j2free.second_half t lower upper)))
          (J1j2free.on_interval g (lists_of [] [] []) (λ lower upper. halves_of t.reference (J1j2free.first_half t lower upper)
          (J1j2free.second_half t lower upper)))
          (J1j2free.on_interval g [] (λ lower upper. J1j2free.first_half t lower upper ++ J1j2free.second_half t lower upper))
          (J1j2free.on_interval g [] (λ lower upper. slices t.reference lower upper (J1j2free.first_half t lower upper)
          (J1j2free.second_half t lower upper))) w
      go None h = three_drawn [] [] [] w
      go (Some (lower, upper)) h = two_drawn t lower upper w (h lower upper refl)

  module _ (job : Job) (fit : T (fits binary64 job.j1.reference)) (m : job.kind ≡ J1j2free → Moderate job.j1) where
    job_streams : job.kind ≡ J1j2free → (lower upper : Float) → (J1j2free.folded job).range1 ≡ Some (lower, upper) → Streams (J1j2free.folded job) lower upper
    unfolding J1j2free.folded
    job_streams k lower upper e =
        streams (J1j2free.folded job) lower upper (limits_ends job.limited job.j1 lower upper fit (m k).sign (m k).offset e)
        (subst Charted e (moderate_drawable job fit m k)) (reference_fits job.j1) (reference_number job.j1 fit (m k))

    by_drawn : (k : Kind) → job.kind ≡ k
        → Drawn (by_kind k (SampleAngles.cut_count (first_free job)) (SampleAngles.cut_count (second_free job)) (J1j2free.cut_count (J1j2free.folded job)))
        (by_kind k (free_plan (first_free job)) (free_plan (second_free job)) (folded_plan (J1j2free.folded job)))
        (by_kind k (free_cuts (first_free job)) (free_cuts (second_free job)) (folded_cuts (J1j2free.folded job)))
        (by_kind k (SampleAngles.sample_angles (first_free job)) (SampleAngles.sample_angles (second_free job)) (J1j2free.all_slices (J1j2free.folded job))) w
    by_drawn J1free e = free_drawn (first_free job)
    by_drawn J2free e = free_drawn (second_free job)
    by_drawn J1j2free e = folded_drawn (J1j2free.folded job) (job_streams e)

    job_drawn : Drawn (cut_count job) (laid job) (all_cuts job) (angles job) w
    unfolding cut_count laid all_cuts angles
    job_drawn = by_drawn job.kind refl

    module _ (p : Plan) (e : plan job (length w) ≡ Some p) where
      -- THEOREM: Where there is a plan, its angles can be asked one by one.
      pub plan_ready : Ready p (work_after job w)
      plan_ready = let h = laid_of job w p e in rw (h.0, h.1) job_drawn.ready

      -- THEOREM: The angles read off work are the job's.
      pub plan_yields : to_come p (work_after job w) start ≡ angles job
      plan_yields = let h = laid_of job w p e in rw (h.0, h.1) job_drawn.yields

    -- THEOREM: Whatever came of the cuts, its angles can be asked.
    pub places_ready : IfSome (plan job (length w)) (λ p. Ready p (work_after job w))
    unfolding plan work_after
    places_ready = go (leb (cut_count job) (length w))
      where
        go : (t : Bool) → IfSome (cond t (Some (laid job)) None)
            (λ p. Ready p (where_laid (cond t (Some (laid job)) None) (all_cuts job ++ drop (cut_count job) w) (zeros (length w))))
        go false = tt
        go true = job_drawn.ready

    -- THEOREM: Where there are places, there is a plan, and the angles read off work are the job's.
    pub places_yield : cut_count job ≤ length w → option_map (λ p. to_come p (work_after job w) start) (plan job (length w)) ≡ Some (angles job)
    unfolding plan work_after
    places_yield room = rw (le-leb (cut_count job) (length w) room) (ap Some job_drawn.yields)

-- ---- how many places the cuts take

folded_filled : (t : Folded) → filled (folded_plan t) ≡ J1j2free.cut_count t
unfolding folded_plan J1j2free.cut_count
folded_filled t = go t.range1
  where
    go : (g : Range)
        → filled (J1j2free.on_interval g (lists_of [] [] []) (λ lower upper. halves_of t.reference (J1j2free.first_half t lower upper)
        (J1j2free.second_half t lower upper)))
        ≡ J1j2free.on_interval g 0 (λ lower upper. length (J1j2free.first_half t lower upper) + length (J1j2free.second_half t lower upper))
    go None = refl
    go (Some (lower, upper)) = refl

free_filled : (f : Free) → filled (free_plan f) ≡ SampleAngles.cut_count f
unfolding free_plan SampleAngles.cut_count
free_filled f = refl

pub laid_filled : (job : Job) → filled (laid job) ≡ cut_count job
unfolding laid cut_count
laid_filled job = go job.kind
  where
    go : (k : Kind) → filled (by_kind k (free_plan (first_free job)) (free_plan (second_free job)) (folded_plan (J1j2free.folded job)))
        ≡ by_kind k (SampleAngles.cut_count (first_free job)) (SampleAngles.cut_count (second_free job)) (J1j2free.cut_count (J1j2free.folded job))
    go J1free = free_filled (first_free job)
    go J2free = free_filled (second_free job)
    go J1j2free = folded_filled (J1j2free.folded job)

pub plan_filled : (job : Job) (places : ℕ) (p : Plan) → plan job places ≡ Some p → filled p ≡ cut_count job
unfolding plan
plan_filled job places p e = go (leb (cut_count job) places) e
  where
    go : (t : Bool) → cond t (Some (laid job)) None ≡ Some p → filled p ≡ cut_count job
    go false e = absurd (none-some p e)
    go true e = ap filled (same_plan e) ∙ laid_filled job

-- THEOREM: Where there are places, the plan takes as many as the cuts counted.
pub places_filled : (job : Job) (places : ℕ) → cut_count job ≤ places → option_map filled (plan job places) ≡ Some (cut_count job)
unfolding plan
places_filled job places room = rw (le-leb (cut_count job) places room) (ap Some (laid_filled job))

-- ---- the front alone counts

drop_take : (n m : ℕ) (w : List Float) → drop n (take (n + m) w) ≡ take m (drop n w)
drop_take zero m w = ap (λ (k : ℕ). take k w) (zero-add m)
drop_take (suc n) zero [] = rw add-zero
drop_take (suc n) (suc m) [] = rw suc-add
drop_take (suc n) m (x ∷ w) = rw suc-add (drop_take n m w)

-- a part that ends within k places
part_front : (n m k : ℕ) (w : List Float) → n + m ≤ k → take m (drop n (take k w)) ≡ take m (drop n w)
part_front n m k w h =
    sym (drop_take n m (take k w)) ∙ ap (drop n) (take-take (n + m) k w h) ∙ drop_take n m w

pub to_come_front : (p : Plan) (w : List Float) (c : Cursor) → to_come p w c ≡ to_come p (take (filled p) w) c
to_come_front (of.Lists n) w c =
    let k = n.first + n.second + n.third in
    let a = take-take n.first k w (omega arith) in
    let b = part_front n.first n.second k w (omega arith) in
    let d = part_front (n.first + n.second) n.third k w (omega arith) in
    rw (a, b, d)
to_come_front (of.Halves h) w c =
    let k = h.first + h.second in
    let a = take-take h.first k w (omega arith) in
    let b = part_front h.first h.second k w (omega arith) in
    rw (a, b)

-- ---- a step

slice_get_none : (l : List Float) (i : ℕ) → slice_get l i ≡ None → length l ≤ i
slice_get_none [] i e = omega arith
slice_get_none (x ∷ l) zero e = absurd (none-some x (sym e))
slice_get_none (x ∷ l) (suc i) e = let h = slice_get_none l i e in omega (arith, h)

sample_gives : (n : Lists) (w : List Float) (c : Cursor) → Gives (drop c.i (all_samples n w)) (λ d. drop d.i (all_samples n w)) (sample_step n w c)
unfolding sample_step
sample_gives n w c = go (slice_get (all_samples n w) c.i) refl
  where
    go : (s : Option Float) → slice_get (all_samples n w) c.i ≡ s
        → Gives (drop c.i (all_samples n w)) (λ d. drop d.i (all_samples n w))
        (option_map (λ y. (y, record { i = c.i + 1; j = c.j; used = c.used; last = c.last })) s)
    go (Some y) e =
        step_here (all_samples n w) c.i (slice_get_within (all_samples n w) c.i y e)
        ∙ ap (λ (x : Float). x ∷ drop (c.i + 1) (all_samples n w)) (get_or_from_slice_get (all_samples n w) c.i y nan e)
    go None e = drop_of_length-le (all_samples n w) (slice_get_none (all_samples n w) c.i e)

-- THEOREM: A step gives the first of what is to come, and leaves the rest.
pub step_gives : (p : Plan) (w : List Float) (c : Cursor) → Ready p w → Gives (to_come p w c) (to_come p w) (step p w c)
step_gives (of.Lists n) w c g = sample_gives n w c
step_gives (of.Halves h) w c g =
    let a = take h.first w in
    let b = take h.second (drop h.first w) in
    gives (distinct a b h.reference c) (distinct a b h.reference) (next a b h.reference c)
    (next_steps a b h.reference g.first g.second g.number g.fit c)
