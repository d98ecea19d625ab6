-- What the functions of `critical_slices` say of the numerators that they are handed.
use Rattle.std.specs.Prelude.{List, map}
use Rattle.polynomial.specs.declared.compensated.Compensated.{Compensated}
use Rattle.polynomial.specs.declared.curve.Numerators.{Numerators}
use Rattle.sampling.specs.CriticalSlices.{Polynomials, intersection}

abbrev pub polynomials_of : Numerators → Polynomials
polynomials_of k = record { a = k.a; b = k.b; c = k.c }

-- the intersections of curves with a later one
abbrev pub meetings : List Polynomials → Polynomials → List (List Compensated)
meetings ks k = map (λ (e : Polynomials). intersection e k) ks
