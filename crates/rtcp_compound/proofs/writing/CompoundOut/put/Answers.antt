use Rattle.std.proofs.Common.{ℕ, List, ◌≡◌, ◌/◌, ◌++◌, append_assoc, length, take, ap, sym, ◌∙◌, arith, refl}
use Rattle.std.proofs.lemmas.List.{length-take, length-append}
use Rattle.rtcp_compound.specs.Compound.{IsReport, IsWire, spelling}
use Rattle.rtcp_compound.specs.Writing.{Written, plain}
use Rattle.rtcp_compound.proofs.WritingLemmas.{plain_size, plain_fits, put_parts, put_done, put_written}
use Rattle.rtcp_compound.proofs.writing.CompoundOut.put.Goals as goal

pub returns-then-self-body-clause-full : goal.returns-then-self-body-clause-full
returns-then-self-body-clause-full c =
    let octets = ap (λ (w : Written). length w.octets) c.self.view_is in
    let used = length-take c.self.inside.used c.self.inside.block in
    let both = length-append c.args.name.now c.args.words.now in
    let size = plain_size c.args.count c.args.kind c.args.numbers.now (c.args.name.now ++ c.args.words.now) in
    (λ e. omega (arith, octets, used, size, both, c.self.told, c.self.invariant.0), λ e. refl)

-- the packet is whole
fits : (c : goal.After-self-1) → IsWire (plain c.args.count c.args.kind c.args.numbers.now (c.args.name.now ++ c.args.words.now))
fits c =
    let both = length-append c.args.name.now c.args.words.now in
    plain_fits c.args.count c.args.kind c.args.numbers.now (c.args.name.now ++ c.args.words.now) c.requires.count c.requires.kind.0 c.requires.kind.1 (omega (arith, both, c.requires.whole)) (omega (arith, both, c.if-self-body.false)) c.requires.body

-- the first packet is a report
first : (c : goal.After-self-1) → length (take c.self.inside.used c.self.inside.block) ≡ 0 → IsReport c.args.kind
first c none = c.requires.first (ap (λ (w : Written). length w.octets) (sym c.self.view_is) ∙ none)

-- the octets that were written
parts : (c : goal.After-self-1) → take c.put_at-self-inside.result c.put_at-self-inside.new.out ≡ take c.self.inside.used c.self.inside.block ++ spelling (plain c.args.count c.args.kind c.args.numbers.now (c.args.name.now ++ c.args.words.now))
parts c =
    let both = length-append c.args.name.now c.args.words.now in
    put_parts _ _ _ _ _ c.args.count c.args.kind _ c.args.numbers.now (c.args.name.now ++ c.args.words.now) c.put_at-at.ensures.octets (c.put_at-at-2.ensures.octets ∙ ap (λ (l : List ℕ). take c.put_at-at.result c.put_at-at.new.out ++ l) c.to_be_bytes.ensures)
    c.put_numbers-at.ensures.octets
    (c.put_at-self-inside.ensures.octets ∙ ap (λ (l : List ℕ). l ++ c.args.words.now) c.put_at-at-3.ensures.octets ∙ append_assoc (take c.put_numbers-at.result c.put_numbers-at.new.out) c.args.name.now c.args.words.now)
    (ap (λ (n : ℕ). n / 4) (omega (arith, both)))

pub invariant_of-self : goal.invariant_of-self
invariant_of-self c =
    let w = plain c.args.count c.args.kind c.args.numbers.now (c.args.name.now ++ c.args.words.now) in
    (omega (arith, c.if-self-body.false, c.self.invariant.0), put_written _ _ w c.self.invariant.1 (fits c) refl (first c) (parts c))

pub returns-clause-ok : goal.returns-clause-ok
returns-clause-ok c =
    let w = plain c.args.count c.args.kind c.args.numbers.now (c.args.name.now ++ c.args.words.now) in
    put_done _ _ w c.args.self.now c.self.invariant.1 (fits c) refl (first c) (parts c) c.self.view_is

pub returns-clause-full : goal.returns-clause-full
returns-clause-full c =
    let octets = ap (λ (w : Written). length w.octets) c.self.view_is in
    let used = length-take c.self.inside.used c.self.inside.block in
    let both = length-append c.args.name.now c.args.words.now in
    let size = plain_size c.args.count c.args.kind c.args.numbers.now (c.args.name.now ++ c.args.words.now) in
    (λ e. absurd cc, λ e. absurd (omega (arith, e, octets, used, size, both, c.self.told, c.self.invariant.0)))
