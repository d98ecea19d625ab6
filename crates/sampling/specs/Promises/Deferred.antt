-- Crossings that are deferred and worked out later, two at a time: what inner functions promise one
-- another. Definitions only.
use Rattle.std.specs.Prelude.{◌≡◌, List, [], ◌∷◌, ◌++◌, Float}
use Rattle.std.specs.List.{flat_map}
use Rattle.arrayvec.specs.ArrayVec.{ArrayVec}
use Rattle.float.specs.Number.{◌⊕◌, ◌⊖◌}
use Rattle.float.specs.Trig.{atan2, acos}
use Rattle.polynomial.specs.Angle.{wrapped_angle}
use Rattle.sampling.specs.declared.deferred.Pending.{Pending}

-- the wrapped angles on both sides of the phase
unfoldable pub angles_of : Pending → List Float
angles_of p =
    let phase = atan2 p.sine p.cosine in
    wrapped_angle (phase ⊖ acos p.ratio) ∷ (wrapped_angle (phase ⊕ acos p.ratio) ∷ [])

-- crossings whose angles are l come after those of old
abbrev pub Defers : ArrayVec Pending → List Float → ArrayVec Pending → Type 0
Defers old l new = flat_map angles_of new.items ≡ flat_map angles_of old.items ++ l
