-- Angles wrapped to one turn (01, module 4, needed by module 3). Definitions only.
use Rattle.std.specs.Prelude.{negsuc, Float, false}
use Rattle.std.specs.Float.{fin}
use Rattle.float.specs.Number.{◌⊕◌, ◌⊖◌, rem_euclid}
use Rattle.float.specs.Trig.{P}

-- 2P
abbrev pub two_pi : Float
two_pi = fin false 884279719003555 (negsuc 46)

-- (angle + P).rem_euclid(2P) - P
unfoldable pub wrapped_angle : Float → Float
wrapped_angle angle = rem_euclid (angle ⊕ P) two_pi ⊖ P
