-- A variable up to its position, part by part; and what stands where a tag is due, by what the code was told.
use Rattle.std.specs.Prelude.{Ok, Err}
use mathlib.Core.Path.{◌≡◌, refl, sym, ap}
use mathlib.Core.Bool.{Bool}
use mathlib.Core.List.{List}
use Prim.Native.Nat.{ℕ}
use Rattle.scan.specs.Number.{capped}
use Rattle.tokens.specs.declared.Fault.{Fault}
use Rattle.tokens.specs.declared.Quoted.{Quoted}
use Rattle.survey.specs.rule.Survey.{KeptText}
use Rattle.reading.specs.rule.Result.{Result, Is, Not, bind}
use Rattle.reading.specs.rule.Statement.{Position}
use Rattle.bridge.specs.Lowest.{never}
use Rattle.elements.specs.Code.{phrase_of}
use Rattle.filters.specs.declared.Titled.TheVariants as titled
use Rattle.filters.specs.Code.{titled_of}
use Rattle.xml_reading.specs.rule.Role.{XmlEntry, Title, title}
use Rattle.xml_reading.specs.rule.Variable.{Manner}
use Rattle.sheets.specs.declared.Fronted.TheVariants as fronted
use Rattle.sheets.specs.Code.{name_in, label_in, position_in, front_of, fronted_of, placed_of}

abbrev text_of : Quoted → KeptText
text_of q = record { place = q.place; length = q.length }

phrase_is : (x : Result KeptText) (q : Quoted) → phrase_of x ≡ Ok q → x ≡ Is (text_of q) q.next
phrase_is (Is t n) q e = let j : record { place = t.place; length = t.length; next = n } ≡ q = cc in rw (← j)
phrase_is (Not f) q e = never cc

phrase_not : (x : Result KeptText) {f : Fault} → phrase_of x ≡ Err f → x ≡ Not f
phrase_not (Is t n) e = never cc
phrase_not (Not g) {f} e = let j : g ≡ f = cc in ap Not j

record TitleIs (x : Result Title) (i k u n : ℕ) : Type 0 where
  title : Title
  is : x ≡ Is title n
  ident : i ≡ capped title.ident.value
  type : k ≡ title.type
  usage : u ≡ title.usage

title_is : (x : Result Title) {i k u n : ℕ} → titled_of x ≡ titled.Is i k u n → TitleIs x i k u n
title_is (Is t m) {i} {k} {u} {n} e =
    let a : capped t.ident.value ≡ i = cc in
    let b : t.type ≡ k = cc in
    let c : t.usage ≡ u = cc in
    let o : m ≡ n = cc in
    record { title = t; is = ap (Is t) o; ident = sym a; type = sym b; usage = sym c }
title_is (Not f) e = never cc

title_not : (x : Result Title) {f : Fault} → titled_of x ≡ titled.Not f → x ≡ Not f
title_not (Is t m) e = never cc
title_not (Not g) {f} e = let j : g ≡ f = cc in ap Not j

front_placed : (t : Title) (a b : Quoted) (i k u : ℕ) (x : Result Position) → i ≡ capped t.ident.value → k ≡ t.type → u ≡ t.usage
    → placed_of i k u a b x ≡ fronted_of (bind x λ p n. Is (record { title = t; name = text_of a; label = text_of b; position = p }) n)
front_placed t a b i k u (Is p n) e f g = rw (e, f, g)
front_placed t a b i k u (Not h) e f g = refl

module _ (bad : Bool) (d : List ℕ) (m : Manner) (l : List XmlEntry) (q e : ℕ) where
  pub front_is : {i k u n : ℕ} (a b : Quoted) → titled_of (title bad d m.old l q e) ≡ titled.Is i k u n → phrase_of (name_in bad d m l n)
      ≡ Ok a
      → phrase_of (label_in bad d m.languages a.next) ≡ Ok b
      → placed_of i k u a b (position_in bad d b.next) ≡ fronted_of (front_of bad d m l q e)
  unfolding front_of
  front_is {i} {k} {u} {n} a b x y z =
      let t = title_is (title bad d m.old l q e) x in
      rw (t.is, phrase_is (name_in bad d m l n) a y, phrase_is (label_in bad d m.languages a.next) b z)
      (front_placed t.title a b i k u (position_in bad d b.next) t.ident t.type t.usage)

  pub label_not : {i k u n : ℕ} (a : Quoted) {f : Fault} → titled_of (title bad d m.old l q e) ≡ titled.Is i k u n
      → phrase_of (name_in bad d m l n) ≡ Ok a
      → phrase_of (label_in bad d m.languages a.next) ≡ Err f → fronted.Not f ≡ fronted_of (front_of bad d m l q e)
  unfolding front_of
  label_not {n = n} a x y z =
      let t = title_is (title bad d m.old l q e) x in
      rw (t.is, phrase_is (name_in bad d m l n) a y, phrase_not (label_in bad d m.languages a.next) z)

  pub name_not : {i k u n : ℕ} {f : Fault} → titled_of (title bad d m.old l q e) ≡ titled.Is i k u n → phrase_of (name_in bad d m l n)
      ≡ Err f
      → fronted.Not f ≡ fronted_of (front_of bad d m l q e)
  unfolding front_of
  name_not {n = n} x y = let t = title_is (title bad d m.old l q e) x in rw (t.is, phrase_not (name_in bad d m l n) y)

  pub title_never : {f : Fault} → titled_of (title bad d m.old l q e) ≡ titled.Not f → fronted.Not f ≡ fronted_of (front_of bad d m l q e)
  unfolding front_of
  title_never x = rw (title_not (title bad d m.old l q e) x)
