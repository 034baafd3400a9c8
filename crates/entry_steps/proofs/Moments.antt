-- What is left at each moment of a call that acknowledges nothing.
use Rattle.std.proofs.Common.{◌≡◌, inr, ℕ, List, length, refl}
use Rattle.std.specs.Prelude.{Result, Ok, Err, OnOk}
use Rattle.pm_trait.specs.Device.{Mix}
use Rattle.layout.specs.Fields.{word}
use Rattle.image_laws.specs.Quiet.{IsMix}

pub on_ok : {T E F : Type 0} (result : Result T E) → F → OnOk result F
on_ok (Ok done) holds = holds
on_ok (Err fault) holds = tt

-- a mix as the laws of images say it
pub is_mix : (a b image : List ℕ) → Mix a b image → IsMix a b image
unfolding word
is_mix a b image mix = record { size = mix.long; words = mix.each }

pub mix_of_new : (a b : List ℕ) → length b ≡ length a → IsMix a b b
unfolding word
mix_of_new a b long = record { size = long; words = λ x. inr refl }
