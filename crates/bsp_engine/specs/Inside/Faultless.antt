-- That a document has none of the faults J2 to J7.
use Rattle.std.specs.Prelude.{◌≡◌, true, false, None, is_some}
use Rattle.toml.specs.Data.{Members}
use Rattle.bsp_engine.specs.Catalogue.{Meaning}
use Rattle.bsp_engine.specs.Keys.{key_fault}
use Rattle.bsp_engine.specs.Signs.{has_negative_word}
use Rattle.bsp_engine.specs.Sizes.{described_fault}

pub record IsFaultless {P : Type 0} (meaning : Meaning P) (t : Members) : Type 0 where
  pub keys : key_fault meaning t ≡ None
  pub program : is_some (meaning.program_of t) ≡ true
  pub sizes : described_fault t ≡ None
  pub signs : has_negative_word meaning t ≡ false
