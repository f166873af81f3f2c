use mathlib.Core.Path.{sym, ◌∙◌}
use Rattle.filters.proofs.Meets.{meets_on, meets_apart, meets_first, meets_second, meets_none}
use Rattle.filters.proofs.meet.Goals as goal

pub next_sign-u-requires : goal.next_sign-u-requires
next_sign-u-requires c = let r = c.requires.0 in (r.next, r.small)

pub next_sign-v-requires : goal.next_sign-v-requires
next_sign-v-requires c = let r = c.requires.1 in (r.next, r.small)

pub returns-then-like : goal.returns-then-like
returns-then-like c =
    let a = c.args in
    meets_on a.latin a.standard a.s.now a.t.now a.a a.b c.next_sign-u.ensures
    c.next_sign-v.ensures _ _ _ _ c.in-One.is c.in-One-v.is
    (sym c.like.ensures ∙ c.if-like.true)

pub returns-else-like : goal.returns-else-like
returns-else-like c =
    let a = c.args in
    meets_apart a.latin a.standard a.s.now a.t.now a.a a.b c.next_sign-u.ensures
    c.next_sign-v.ensures _ _ _ _ c.in-One.is c.in-One-v.is
    (sym c.like.ensures ∙ c.if-like.false)

pub returns-in-Over-v : goal.returns-in-Over-v
returns-in-Over-v c =
    let a = c.args in
    meets_first a.latin a.standard a.s.now a.t.now a.a a.b
    c.next_sign-u.ensures c.next_sign-v.ensures
    _ _ c.in-One.is c.in-Over-v.is

pub returns-in-One-v-2 : goal.returns-in-One-v-2
returns-in-One-v-2 c =
    let a = c.args in
    meets_second a.latin a.standard a.s.now a.t.now a.a a.b
    c.next_sign-u.ensures c.next_sign-v.ensures _ _
    c.in-Over.is c.in-One-v-2.is

pub returns-in-Over-v-2 : goal.returns-in-Over-v-2
returns-in-Over-v-2 c =
    let a = c.args in
    meets_none a.latin a.standard a.s.now a.t.now a.a a.b
    c.next_sign-u.ensures c.next_sign-v.ensures
    c.in-Over.is c.in-Over-v-2.is
