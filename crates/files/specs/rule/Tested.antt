-- A table that was tested, and its header.
use Rattle.std.specs.Prelude.{◌≡◌, true, List, ℤ}
use Rattle.layout.specs.rule.Layout.{header_of}
use Rattle.layout.specs.declared.Header.{Header}
use Rattle.sound.specs.rule.Sound.{well_formed}

pub record Tested (t : List ℤ) (h : Header) : Type 0 where
  pub good : well_formed t ≡ true
  pub head : h ≡ header_of t
