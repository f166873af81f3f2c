-- "`<x ../>` and `<x ..></x>` are the same; between an empty pair white space and comments may stand. An end tag of another name: 50 at its
-- `<`. A start tag that may not stand there ends the statement it stands in: it is read for its form only (50 first)": 51 at its `<`.
-- From behind the start tag of an element w that holds nothing.
use Rattle.std.specs.Prelude.{Bool, List, ℕ}
use Rattle.markup.specs.declared.Skip.{Skip}
use Rattle.markup.specs.declared.Skip.TheVariants as skip
use Rattle.tags.specs.declared.Tag.{Tag}
use Rattle.tags.specs.declared.Tag.TheVariants as tag
use Rattle.pairs.specs.declared.Stand.{Stand}
use Rattle.pairs.specs.declared.Stand.TheVariants as stand
use Rattle.pairs.specs.declared.Pair.{Pair}
use Rattle.pairs.specs.declared.Pair.TheVariants.{Past, Cut, Fault}
use Rattle.pairs.specs.rule.Stand.{stand_of, shut_of, bare_of}

abbrev pub pair_bare : ℕ → Tag → Pair
pair_bare o (tag.Read h em p n) = Cut o
pair_bare o (tag.Fault k p) = Fault k p

-- a start tag cuts, once its form was read
unfoldable pub missed_of : Bool → List ℕ → ℕ → ℕ → Pair
missed_of bad d o e = pair_bare o (bare_of bad d o e)

abbrev pub pair_shut : Skip → Pair
pair_shut (skip.Past n) = Past n
pair_shut (skip.Broken p) = Fault 50 p

unfoldable pub closed_of : Bool → List ℕ → ℕ → ℕ → List ℕ → Pair
closed_of bad d o e w = pair_shut (shut_of bad d o e w)

abbrev pub on_stand : Bool → List ℕ → List ℕ → Stand → Pair
on_stand bad d w (stand.Start p e) = missed_of bad d p e
on_stand bad d w (stand.Close p e) = closed_of bad d p e w
on_stand bad d w (stand.Foreign p) = Cut p
on_stand bad d w (stand.Text p) = Fault 2 p
on_stand bad d w (stand.Broken p) = Fault 50 p

unfoldable pub pair_of : Bool → List ℕ → ℕ → List ℕ → Pair
pair_of bad d at w = on_stand bad d w (stand_of bad d at)
