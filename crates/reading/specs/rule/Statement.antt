-- "NOTE and a string may stand after VERSION between whole statements." A statement begins with its word. "POSITION a [TO b]", "`SPREAD` n
-- [`OF` w]" and SIZE are judged once read, by the true values of their numbers.
use Rattle.std.specs.Prelude.{not, List, [], ◌∷◌, ℕ, suc, ◌%◌, eqb, ltb, length}
use Rattle.std.proofs.Math.Option.{Option, none, some, get_or}
use Rattle.scan.specs.rule.Loop.{Next, Again, Done}
use Rattle.tokens.specs.rule.Gap.{fault}
use Rattle.statements.specs.rule.Words.{NOTE, POSITION, TO, OF, SIZE}
use Rattle.survey.specs.rule.Survey.{Figure, KeptText, Spread}
use Rattle.reading.specs.rule.Result.{Reader, ◌>>◌, give, repeat, ◌>>=◌}
use Rattle.reading.specs.rule.Least.{Charge, ◌when◌, judged}
use Rattle.reading.specs.rule.Token.{gap, either, here, optional, number, string}

-- "7 start 0, finish below start"; "highest location 16,384"
unfoldable pub position_charges : Figure → Figure → List Charge
position_charges a b =
    fault 7 a.place when eqb a.value 0
    ∷ fault 7 b.place when ltb b.value a.value
    ∷ fault 8 a.place when ltb 16384 a.value
    ∷ fault 8 b.place when ltb 16384 b.value
    ∷ []

-- "7 subfields 0, subfield width 0 or inexact": without OF n must divide the position's width
unfoldable pub spread_charges : ℕ → Figure → Option Figure → List Charge
spread_charges room n none =
    fault 7 n.place when eqb n.value 0
    ∷ fault 7 n.place when not (eqb (room % n.value) 0)
    ∷ []
spread_charges room n (some w) =
    fault 7 n.place when eqb n.value 0
    ∷ fault 7 w.place when eqb w.value 0
    ∷ []

-- "7 SIZE 0"; "SIZE 4,096"
unfoldable pub size_charges : Figure → List Charge
size_charges n =
    fault 7 n.place when eqb n.value 0
    ∷ fault 8 n.place when ltb 4096 n.value
    ∷ []

-- POSITION a [TO b]
pub record Position : Type 0 where
  pub start : Figure
  pub finish : Option Figure

module _ (d : List ℕ) where
  -- one note, or none is left
  abbrev pub note : Unit {0} → Reader (Next Unit Unit)
  note s = either d NOTE (string d >> gap d >> give (Again tt)) (give (Done tt))

  unfoldable pub notes : Reader Unit
  notes = gap d >> repeat (suc (length d)) note tt

  unfoldable pub statement : List ℕ → Reader Unit
  statement w = notes >> here d w

  unfoldable pub phrase : List ℕ → Reader KeptText
  phrase w = statement w >> string d

  unfoldable pub position : Reader Position
  position = do
    statement POSITION
    a ← number d
    b ← optional d TO (number d)
    judged (position_charges a (get_or b a)) (record { start = a; finish = b })

  -- behind SPREAD, in a position of `room` bytes
  unfoldable pub spread : ℕ → Reader Spread
  spread room = do
    n ← number d
    w ← optional d OF (number d)
    judged (spread_charges room n w) (record { count = n; width = w })

  unfoldable pub size : Reader Figure
  size = do
    statement SIZE
    n ← number d
    judged (size_charges n) n
