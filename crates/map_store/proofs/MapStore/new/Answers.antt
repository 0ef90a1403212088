use Rattle.std.proofs.Common.{◌≡◌, ℕ, refl, arith}
use Rattle.map_store.specs.Store as S
use Rattle.map_store.specs.Numbered.{Rising}
use Rattle.map_store.specs.View.{entries_in}
use Rattle.map_store.proofs.MapStore.new.Goals as goal

pub returns : goal.returns
unfolding entries_in S.live_of Rising
returns c = (
  (λ cells. refl),
  refl,
  (λ cells h. record {
    live = refl;
    fits = omega arith;
    room = omega arith;
    small = h;
    numbers = omega arith;
    numbered = omega arith;
    packed = λ e. refl;
    indexed = λ e. absurd (let z : ◌≡◌ {A = ℕ} 0 1 = cc in omega arith);
  }),
)
