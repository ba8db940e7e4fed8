-- The link is there, or it isn't.
use Rattle.std.proofs.Common.{Bool, true, false, nat_lt, length, ◌≡◌, refl, sym, subst, arith}
use Rattle.std.proofs.lemmas.Bool.Decides.{nat_tests}
use Rattle.rist_sender.specs.Calls.{IfElse}
use Rattle.rist_desk.specs.declared.beside.Side.TheVariants as sides
use Rattle.rist_gateway.specs.Course.{ReadsOnce}
use Rattle.rist_gateway.specs.Inside.Moves.{setup_with}
use Rattle.rist_gateway.proofs.MoveLemmas.{goes_none, goes_as}
use Rattle.rist_gateway.proofs.look.look.Goals as goal

pub returns-then-from-links-clause-work : goal.returns-then-from-links-clause-work
returns-then-from-links-clause-work g c = λ moments from far.
    let setup = setup_with c.args.sender.now (length c.args.links.now) in
    let inside = c.if-from-links.true in
    let yes : nat_lt c.args.link (length c.args.links.now) ≡ true = grind (arith, nat_tests) in
    goes_as _ c.args.sender.now c.look_on.new.sender moments c.args.links.now c.look_on.new.links from _ _ (c.look_on.ensures.work moments from far)
    (λ to fact. subst (λ (b : Bool). IfElse b (ReadsOnce setup c.args.us c.args.link c.args.puts c.look_on.result from to) ((c.look_on.result ≡ sides.End) × (to ≡ from))) (sym yes) fact)

pub returns-else-from-links-clause-work : goal.returns-else-from-links-clause-work
returns-else-from-links-clause-work g c = λ moments from far.
    let setup = setup_with c.args.sender.now (length c.args.links.now) in
    let beyond = c.if-from-links.false in
    let no : nat_lt c.args.link (length c.args.links.now) ≡ false = grind (arith, nat_tests) in
    goes_none _ c.args.sender.now moments c.args.links.now from _ far
    (subst (λ (b : Bool). IfElse b (ReadsOnce setup c.args.us c.args.link c.args.puts sides.End from from) ((sides.End ≡ sides.End) × (from ≡ from))) (sym no) (refl, refl))
