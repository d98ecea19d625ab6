-- One free joint: `sample_angles` of continuum.rs (01, module 5). Kind 1's angles are those of joint 1, kind 2's those of joint 2. Definitions only.
use Rattle.std.specs.Prelude.{Option, None, Some, ℕ, ◌+◌, Bool, cond, List, [], length, Float}
use Rattle.std.specs.Float.Ieee.Scale.{finite}
use Rattle.float.specs.Number.{zero_float, one_float}
use Rattle.float.specs.Trig.{P}
use Rattle.sampling.specs.Constraints.{compute_center}
use Rattle.sampling.specs.Intervals.{wrist_limit_intervals}
use Rattle.sampling.specs.Marks.{model_angle, marks}
use Rattle.sampling.specs.Wrist.{wrist}
use Rattle.sampling.specs.Bends.{all_roots}
use Rattle.sampling.specs.Samples.{interval_cuts, three_samples}
use Rattle.sampling.specs.declared.constraints.Center.{Center}
use Rattle.sampling.specs.declared.continuum.Axes.{Axes}
use Rattle.sampling.specs.declared.intervals.Intervals.{Intervals}
use Rattle.sampling.specs.declared.job.Job.{Job}
use Rattle.sampling.specs.declared.job.Joint.{Joint}
use Rattle.sampling.specs.declared.marks.Marks.{Marks}
use Rattle.sampling.specs.declared.sample_angles.Free.{Free}

-- the centre and the tolerance of the free joint's limits as a model angle; without limits, 0 and P
unfoldable pub free_limits : Bool → Joint → Center
free_limits limited j =
    cond limited
    (record { center = model_angle j.sign j.offset (compute_center j.from j.to).center; tolerance = (compute_center j.from j.to).tolerance })
    (record { center = zero_float; tolerance = P })

-- a fixed sixth joint is not read
unfoldable pub sixth : Bool → Bool → Joint → Option Marks
sixth fixed limited j = cond fixed None (Some (marks limited j))

-- what counts of a job whose joint j is free, and which has these columns of the arm's rotation
unfoldable pub free : Axes → Job → Joint → Free
free axes job j =
    record {
      near = model_angle j.sign j.offset j.reference;
      limits = free_limits job.limited j;
      wrist = wrist axes job.matrix;
      fourth = marks job.limited job.j4;
      fifth = marks job.limited job.j5;
      sixth = sixth job.fixed job.limited job.j6;
    }

-- all boundary angles, in order
unfoldable pub roots : Free → List Float
roots f = all_roots f.wrist f.near f.fourth f.fifth f.sixth f.limits.center

-- the displacements that the free joint's limits allow
unfoldable pub intervals : Free → Intervals
intervals f = wrist_limit_intervals f.limits f.near one_float

-- The cuts of each interval; none where the reference is not finite.
unfoldable pub first_cuts : Free → List Float
first_cuts f = cond (finite f.near) (interval_cuts f.near (roots f) (intervals f).first) []

unfoldable pub second_cuts : Free → List Float
second_cuts f = cond (finite f.near) (interval_cuts f.near (roots f) (intervals f).second) []

unfoldable pub third_cuts : Free → List Float
third_cuts f = cond (finite f.near) (interval_cuts f.near (roots f) (intervals f).third) []

-- the number of cuts: the three lists' lengths, added
unfoldable pub cut_count : Free → ℕ
cut_count f = length (first_cuts f) + length (second_cuts f) + length (third_cuts f)

-- The angles: each interval's samples, one interval after the other.
unfoldable pub sample_angles : Free → List Float
sample_angles f = three_samples (first_cuts f) (second_cuts f) (third_cuts f)
