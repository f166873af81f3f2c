-- "A `<` or `</` with no name behind it 50 at the `<`; a tag that the file's end cuts, 50 at its `<`. A byte that is no legal character
-- directly behind `<` or `</` is 50 at that byte. Processing instructions and CDATA are XML that document 000 doesn't name: 51 at `<`,
-- nothing of them is read. Any other `<!` is 50 at `<`." A comment is not asked here. 47 is /, 63 ?, 33 !, 62 >.
use Rattle.std.specs.Prelude.{Bool, cond, List, [], ◌∷◌, ℕ, ◌+◌, leb, eqb, length, drop, get_or}
use Rattle.markup.specs.rule.Bytes.{of_kind, run_of, starts_name, stands, end_fault}
use Rattle.markup.specs.declared.Skip.{Skip}
use Rattle.markup.specs.declared.Skip.TheVariants as skip
use Rattle.angles.specs.declared.Angle.{Angle}
use Rattle.angles.specs.declared.Angle.TheVariants.{Start, Close, Foreign, Broken}

-- </ and a name
unfoldable pub close_of : Bool → List ℕ → ℕ → Angle
close_of bad d p =
    cond (leb (length d) (p + 2)) (Broken (end_fault bad (p + 2) p))
    (cond (starts_name (get_or d (p + 2) 0)) (Close (run_of (of_kind 1) (p + 2) (drop (p + 2) d))) (Broken p))

-- <! : <![CDATA[, or nothing that XML has in an element
unfoldable pub bang_of : List ℕ → ℕ → Angle
bang_of d p = cond (stands (60 ∷ 33 ∷ 91 ∷ 67 ∷ 68 ∷ 65 ∷ 84 ∷ 65 ∷ 91 ∷ []) (drop p d)) Foreign (Broken p)

unfoldable pub angle_of : Bool → List ℕ → ℕ → Angle
angle_of bad d p =
    let b = get_or d (p + 1) 0 in
    cond (leb (length d) (p + 1)) (Broken (end_fault bad (p + 1) p))
    (cond (eqb b 47) (close_of bad d p)
    (cond (eqb b 63) Foreign
    (cond (eqb b 33) (bang_of d p)
    (cond (starts_name b) (Start (run_of (of_kind 1) (p + 1) (drop (p + 1) d))) (Broken p)))))

-- white space and >, behind the name of an end tag that opened at o
unfoldable pub end_of : Bool → List ℕ → ℕ → ℕ → Skip
end_of bad d o e =
    let n = run_of (of_kind 0) e (drop e d) in
    cond (leb (length d) n) (skip.Broken (end_fault bad n o)) (cond (eqb (get_or d n 0) 62) (skip.Past (n + 1)) (skip.Broken n))
