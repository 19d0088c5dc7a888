-- What an answer says of the fault that it came from.
use Rattle.std.proofs.Common.{◌≡◌, Some, None, Ok, Err, Option, sym, refl, ap}
use Rattle.faults.specs.declared.Place.{Place}
use Rattle.faults.specs.declared.Misfit.{Misfit}
use Rattle.kinds.specs.Kinds.{answered, placed_at}

module _ {V E : Type 0} where
  pub passed : (o : Option E) (v w : V) → Ok w ≡ answered o v → o ≡ None
  passed None v w h = refl
  passed (Some f) v w h = absurd cc

  pub stopped : (o : Option E) (v : V) (f : E) → Err f ≡ answered o v → o ≡ Some f
  stopped None v f h = absurd cc
  stopped (Some e) v f h = cc

  pub gave : (o : Option E) (v w : V) → Ok w ≡ answered o v → w ≡ v
  gave None v w h = cc
  gave (Some e) v w h = absurd cc

-- the same refusal where another value was to come
pub refused : {V W E : Type 0} (o : Option E) (v : V) (w : W) (f : E) → Err f ≡ answered o v → Err f ≡ answered o w
refused o v w f h = sym (ap (λ o. answered o w) (stopped o v f h))

pub unplaced : (p : Place) (o : Option Misfit) → placed_at p o ≡ None → o ≡ None
unplaced p None h = refl
unplaced p (Some m) h = absurd cc
