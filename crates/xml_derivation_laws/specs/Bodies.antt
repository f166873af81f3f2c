-- What follows the start tag of an element that holds nothing, or a text: read, with nothing charged, exactly as it stands there.
use Rattle.std.specs.Prelude.{◌≡◌, Bool, cond, ℕ, ◌<◌, ◌≤◌, length}
use Rattle.std.proofs.Math.Path.{refl, ap}
use Rattle.std.proofs.Common.{◌∙◌, arith}
use Rattle.std.proofs.Math.Bool.{true, false}
use mathlib.Core.List.{List, [], ◌∷◌}
use Rattle.pairs.specs.declared.Pair.{Pair}
use Rattle.pairs.specs.declared.Pair.TheVariants as pair
use Rattle.pairs.specs.rule.Pair.{pair_of}
use Rattle.pairs.specs.rule.Grammar.{Name}
use Rattle.pairs.proofs.Ends.{pair_exactly}
use Rattle.contents.specs.declared.Content.{Content}
use Rattle.contents.specs.declared.Content.TheVariants as content
use Rattle.contents.specs.rule.Content.{content_of}
use Rattle.contents.proofs.Exactly.{content_exactly}
use Rattle.survey.specs.rule.Survey.{KeptText}
use Rattle.reading.specs.rule.Result.{Is}
use Rattle.reading.specs.rule.Least.{Charge}
use Rattle.bridge.specs.Lowest.{never}
use Rattle.elements.proofs.Cuts.{pair_cut, content_cut}
use Rattle.grammar.specs.Faults.{Clean}
use Rattle.xml_reading.specs.rule.Open.{unknown_at, on_pair}
use Rattle.xml_reading.specs.rule.Open as stands
use Rattle.xml_reading.specs.rule.Element.{Body, body_of, on_content, body}
use Rattle.xml_derivations.specs.Tag.{NothingAt, TextAt}
use Rattle.xml_derivations.specs.Tag as tags
use Rattle.xml_derivation_laws.specs.Charges.{known}

module _ (bad : Bool) (d w : List ℕ) where
  -- ---- nothing
  pub nothing_read : (em : Bool) {n m : ℕ} {l : List Charge} → Name w → 0 < n → stands.nothing bad d w em n ≡ Is l m → Clean l
      → NothingAt d w em n m
  unfolding stands.nothing
  nothing_read true {n} {m} {l} a h e c = let i : n ≡ m = cc in rw i tags.NothingAt.alone
  nothing_read false {n} {m} {l} a h e c = by (pair_of bad d n w) refl e where
    by : (r : Pair) → pair_of bad d n w ≡ r → on_pair bad d r ≡ Is l m → NothingAt d w false n m
    by (pair.Past k) f e = let i : k ≡ m = cc in tags.pair ((pair_exactly bad d w n m a).0 (f ∙ ap pair.Past i))
    by (pair.Cut p) f e =
        let i : unknown_at p ∷ [] ≡ l = cc in
        let z = known p [] (rw i c) in
        let y = z.0 in
        let x = (pair_cut bad d w n p f).0 in
        absurd (omega arith)
    by (pair.Fault k p) f e = never cc

  pub nothing_there : {em : Bool} {n m : ℕ} → Name w → NothingAt d w em n m → stands.nothing bad d w em n ≡ Is [] m
  unfolding stands.nothing
  nothing_there a tags.NothingAt.alone = refl
  nothing_there {n = n} {m = m} a (tags.pair p) = rw ((pair_exactly bad d w n m a).1 p)

  -- ---- a text
  pub record TextRead (latin : Bool) (mode : ℕ) (em : Bool) (n : ℕ) (b : Body) (m : ℕ) : Type 0 where
    pub text : TextAt latin d mode w em n b.text m
    pub whole : b.whole ≡ true
    pub known : Clean b.charges

  pub text_read : (latin : Bool) (mode : ℕ) (em : Bool) {n m : ℕ} {b : Body} → Name w → 0 < n → n ≤ length d
      → body bad d w mode em n ≡ Is b m → Clean b.charges → TextRead latin mode em n b m
  unfolding body
  text_read latin mode true {n} {m} {b} a h o e c =
      let i : n ≡ m = cc in
      let j : body_of n n true [] ≡ b = cc in
      let z = ap (λ (y : Body). y.charges) j in
      rw (← j) (record { text = rw i tags.TextAt.alone; whole = refl; known = rw z c })
  text_read latin mode false {n} {m} {b} a h o e c = by (content_of bad d mode w n) refl e where
    by : (r : Content) → content_of bad d mode w n ≡ r → on_content n r ≡ Is b m → TextRead latin mode false n b m
    by (content.Read k q u) f e =
        let i : q ≡ m = cc in
        let j : body_of n k true (unknown_at u ∷ []) ≡ b = cc in
        let o : unknown_at u ∷ [] ≡ b.charges = ap (λ (y : Body). y.charges) j in
        let z = known u [] (rw o c) in
        let y = z.0 in
        rw (← j)
        (record {
          text = tags.ended ((content_exactly latin bad d mode w n k m 0 a).0 (f ∙ rw (i, y)));
          whole = refl;
          known = rw o c;
        })
    by (content.Cut p u) f e =
        let j : body_of n n false (unknown_at u ∷ unknown_at p ∷ []) ≡ b = cc in
        let i : unknown_at u ∷ unknown_at p ∷ [] ≡ b.charges = ap (λ (y : Body). y.charges) j in
        let z = known p [] (known u (unknown_at p ∷ []) (rw i c)).1 in
        let y = z.0 in
        let x = (content_cut bad d mode w n p u o f).0 in
        absurd (omega arith)
    by (content.Fault k p) f e = never cc

  -- the charges of a text with no unknown attribute
  abbrev pub noted : Bool → List Charge
  noted em = cond em [] (unknown_at 0 ∷ [])

  pub text_there : {latin em : Bool} {mode n m : ℕ} {t : KeptText} → Name w → TextAt latin d mode w em n t m
      → body bad d w mode em n ≡ Is (record { text = t; whole = true; charges = noted em }) m
  unfolding body
  text_there a tags.TextAt.alone = refl
  text_there {latin = latin} {mode = mode} {n = n} {m = m} a (tags.ended {e = e} c) =
      rw ((content_exactly latin bad d mode w n e m 0 a).1 c)
