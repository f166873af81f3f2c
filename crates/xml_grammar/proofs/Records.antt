-- `<record>`: variables, one at least, as the table says.
use Rattle.std.specs.Prelude.{◌≡◌, Bool, true, false, cond, ℕ, suc}
use Rattle.std.proofs.Math.Path.{refl}
use Rattle.std.proofs.Common.{◌∙◌}
use mathlib.Core.List.{List, [], ◌∷◌, ◌++◌}
use Rattle.layout.specs.rule.Layout.{most_rows}
use Rattle.scan.specs.rule.Loop.{Again}
use Rattle.tags.specs.rule.Tag.{tag_of}
use Rattle.reading.specs.rule.Result.{Result, Is, Not, Reader, ◌>>=◌, give, repeat, bind}
use Rattle.xml_reading.specs.rule.Word.{RECORD, VARIABLE, IDENT, HREF}
use Rattle.xml_reading.specs.rule.Open.{Open, within_element, due, unknown_at, enter}
use Rattle.xml_reading.specs.rule.Role.{XmlEntry}
use Rattle.xml_reading.specs.rule.Variable.{Manner, variable}
use Rattle.xml_reading.specs.rule.Sheet.{record_tag, on_open, another_element, variables}
use Rattle.xml_grammar.specs.Grammar.{Element, Record, Variable, once, any}
use Rattle.xml_grammar.specs.Reader.{steps, round, element}
use Rattle.xml_grammar.specs.Meaning.{State, between, meanings}
use Rattle.xml_grammar.specs.Behind.{same_behind, on_tag_lem, due_same}
use Rattle.xml_grammar.specs.Loops.{onward, ending, rounds_are, turn_is}
use Rattle.xml_grammar.proofs.Variables.{variable_is}

module _ (bad : Bool) (d : List ℕ) (f : ℕ) (m : Manner) where
  abbrev child : Element → State → ℕ → Reader State
  child = element bad d (meanings d) (suc (suc (suc f)))

  abbrev hold : List XmlEntry → State
  hold l = between m l

  abbrev held : List XmlEntry → Reader State
  held l = give (hold l)

  handed : (l : List XmlEntry) (K : State → Reader State) (L : List XmlEntry → Reader State) (r : Result XmlEntry)
      → ((c : List XmlEntry) (n : ℕ) → K (hold c) n ≡ L c n)
      → bind (bind r λ v. give (hold (l ++ v ∷ []))) K ≡ bind (bind r λ v. give (Again (l ++ v ∷ []))) (onward L held)
  handed l K L (Is v n) e = e (l ++ v ∷ []) n
  handed l K L (Not x) e = refl

  a_round : (l : List XmlEntry) (n : ℕ) (K : State → Reader State) (L : List XmlEntry → Reader State)
      → ((c : List XmlEntry) (n : ℕ) → K (hold c) n ≡ L c n)
      → bind (round bad d (meanings d) child RECORD Variable (hold l) n) (onward K (ending bad d hold))
      ≡ bind (another_element bad d m l n) (onward L held)
  unfolding another_element
  a_round l n K L e =
      turn_is bad d hold VARIABLE RECORD l (child Variable (hold l)) (λ p. variable bad d m l p >>= λ v. give (Again (l ++ v ∷ []))) K L
      (λ p n. rw (variable_is bad d f m l p n) (handed l K L (variable bad d m l p n) e)) (on_open bad d m l) (λ p n. refl) (λ p n. refl) n

  abbrev loop : State → Reader State
  loop t n = bind (repeat (suc most_rows) (round bad d (meanings d) child RECORD Variable) t n) (ending bad d hold)

  loop_is : (l : List XmlEntry) (n : ℕ) → loop (hold l) n ≡ bind (repeat (suc most_rows) (another_element bad d m) l n) held
  loop_is l n = rounds_are bad d hold (round bad d (meanings d) child RECORD Variable) (another_element bad d m) a_round (suc most_rows) l n

  abbrev rest : XmlEntry → Reader (List XmlEntry)
  rest v = repeat (suc most_rows) (another_element bad d m) (v ∷ [])

  first_then : (r : Result XmlEntry) → bind (bind r λ v. give (hold (v ∷ []))) loop ≡ bind r λ v n. bind (rest v n) held
  first_then (Is v n) = loop_is (v ∷ []) n
  first_then (Not x) = refl

  first_read : (p n : ℕ) → bind (child Variable (hold []) p n) loop ≡ bind (variable bad d m [] p n) λ v n. bind (rest v n) held
  first_read p n = rw (variable_is bad d f m [] p n) (first_then (variable bad d m [] p n))

  variables_are : (n : ℕ)
      → (steps bad d (meanings d) child RECORD (once Variable ∷ any Variable ∷ [])).go (hold []) n ≡ bind (variables bad d m n) held
  unfolding steps variables
  variables_are n = by (within_element bad d RECORD n) where
    back : (r : Result XmlEntry) → bind r (λ v n. bind (rest v n) held) ≡ bind (bind r rest) held
    back (Is v n) = refl
    back (Not x) = refl

    by : (r : Result Open) → bind r (λ o. due bad d VARIABLE o (child Variable (hold [])) >>= loop)
        ≡ bind (bind r λ o. due bad d VARIABLE o (variable bad d m []) >>= rest) held
    by (Is o n) =
        due_same bad d VARIABLE o n (child Variable (hold [])) (variable bad d m []) loop (λ v n. bind (rest v n) held)
        (λ p. first_read p n)
        ∙ back (due bad d VARIABLE o (variable bad d m []) n)
    by (Not x) = refl

  -- ---- the whole
  no_form : (old : Bool) → ◌≡◌ {A = ℕ} (cond old 0 0) 0
  no_form true = refl
  no_form false = refl

  closing : (r : Result State) → bind r (λ s. give s) ≡ r
  closing (Is t n) = refl
  closing (Not x) = refl

  abbrev variables_in : Reader State
  variables_in = variables bad d m >>= held

  pub record_is : (p e : ℕ) → element bad d (meanings d) (suc (suc (suc (suc f)))) Record (hold []) p e
      ≡ bind (record_tag bad d m p e) λ u. variables_in
  unfolding element record_tag
  record_is p e =
      rw (no_form m.old)
      (on_tag_lem bad d (tag_of bad d p e IDENT (cond m.old [] HREF) [] 3 0 0 1) _ _ (λ u. variables_in) λ h empty q n.
      same_behind (enter bad d (unknown_at h.unknown ∷ []) empty q n) _ _ λ u n. closing _ ∙ variables_are n)
