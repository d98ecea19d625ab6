-- The boundary angles of joints 4 and 6, in the order in which the Rust finds them: `sample_angles` of continuum.rs (01, module 5). Definitions only.
use Rattle.std.specs.Prelude.{Option, None, Some, cond, List, [], ◌++◌, Float}
use Rattle.std.specs.Float.Ieee.{neg}
use Rattle.std.specs.Float.Ieee.Scale.{finite}
use Rattle.std.specs.Option.{option_map_or}
use Rattle.float.specs.Number.{◌⊕◌, ◌⊗◌, one_float}
use Rattle.sampling.specs.Continuum.{roots, ray_roots}
use Rattle.sampling.specs.Marks.{range}
use Rattle.sampling.specs.declared.continuum.Trig.{Trig}
use Rattle.sampling.specs.declared.wrist.Ray.{Ray}
use Rattle.sampling.specs.declared.wrist.Wrist.{Wrist}
use Rattle.sampling.specs.declared.marks.Marks.{Marks}
use Rattle.sampling.specs.Intervals.{Range}

-- The poles: the cosine of joint 5 is 1 or −1. They count with and without limits, since the
-- vectors of joints 4 and 6 vanish there and their lines say nothing.
unfoldable pub poles : Trig → List Float
poles cos5 = roots cos5 one_float ++ roots cos5 (neg one_float)

-- limits that admit no angle have a centre that is not finite
unfoldable pub ray_at : Ray → Float → List Float
ray_at ray angle = cond (finite angle) (ray_roots ray.x ray.y angle) []

unfoldable pub ray_range : Ray → Range → List Float
ray_range ray None = []
ray_range ray (Some (lower, upper)) = ray_at ray lower ++ ray_at ray upper

-- with limits, their centre and ends after the reference
unfoldable pub ray_marks : Ray → Marks → List Float
ray_marks ray m = ray_at ray m.reference ++ option_map_or (λ l. ray_at ray l.center ++ ray_range ray l.range) m.limits []

-- At a pole only the sum or the difference of joints 4 and 6 is known, so where a pole lasts along an interval
-- these bound it, not the angles of one joint. Whether the angle is finite is not asked.
unfoldable pub corner : Ray → Float → Float → Float → List Float
corner ray sign angle4 angle6 = ray_roots ray.x ray.y (angle4 ⊕ sign ⊗ angle6)

-- Each end of joint 4's limits with each of joint 6's. If one of them has no ends, every phase can be split, and there is no boundary.
unfoldable pub corners : Ray → Float → Range → Range → List Float
corners ray sign None limit6 = []
corners ray sign (Some (a, b)) None = []
corners ray sign (Some (a, b)) (Some (c, d)) = ((corner ray sign a c ++ corner ray sign a d) ++ corner ray sign b c) ++ corner ray sign b d

-- both references, then the corners
unfoldable pub phase_roots : Ray → Float → Marks → Marks → List Float
phase_roots ray sign m4 m6 = corner ray sign m4.reference m6.reference ++ corners ray sign (range m4) (range m6)

unfoldable pub phases : Wrist → Marks → Marks → List Float
phases w m4 m6 = phase_roots w.sum one_float m4 m6 ++ phase_roots w.difference (neg one_float) m4 m6

-- A fixed joint 6 bounds nothing: five axes fix the tool's direction alone, and its roll must not restrict the arm.
unfoldable pub sixth_roots : Wrist → Marks → Option Marks → List Float
sixth_roots w m4 None = []
sixth_roots w m4 (Some m6) = ray_marks w.q6 m6 ++ phases w m4 m6
