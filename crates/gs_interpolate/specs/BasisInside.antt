-- What the fields of `Basis` hold.
use Rattle.gs_interpolate.specs.Family.{bytes_of}
use Rattle.gs_interpolate.specs.Basis.{Polynomials, IsInRange}
use Rattle.gs_interpolate.specs.declared.basis.Basis.TheInside.{Inside}

-- the polynomials that the fields are
abbrev pub polynomials : Inside → Polynomials
polynomials s = record {
  t = s.t;
  d = s.d;
  lanes = s.lanes;
  rows = bytes_of s.rows.items;
  exponents = s.exponents.items;
}

-- they are as few, and as small, as in any interpolation
abbrev pub IsSound : Inside → Type 0
IsSound s = IsInRange (polynomials s)
