use Rattle.std.proofs.Common.{◌+◌, [], ◌∷◌, ◌++◌, ap, refl, ◌∙◌, arith}
use Rattle.aes_block.specs.Cipher.{expanded_key, state_after}
use Rattle.aes_block.specs.Inside.Rounds.{octets_of}
use Rattle.aes_block.specs.Row.{Row}
use Rattle.aes_block.proofs.StateLemmas.{state_0, state_4, state_8, state_12, wrapped}
use Rattle.aes_block.proofs.prefix.Prefix.states.Goals as goal

pub returns-clause-first : goal.returns-clause-first
returns-clause-first c =
    let p = c.self.inside in
    let n = c.args.last in
    ap octets_of (state_0 p.start p.first p.second _ c.towered.result c.substituted.result.0 c.substituted.result.1 _ c.substituted-2.result.0 c.substituted-2.result.1
    n (n + 1) (n + 2) (n + 3) c.self.invariant.start_long c.self.invariant.first_long (wrapped n (omega arith))
    c.towered.ensures.tower c.substituted.ensures.once c.substituted.ensures.twice refl c.substituted-2.ensures.once c.substituted-2.ensures.twice)
    ∙ c.self.invariant.at_0 c.args.last (omega arith)
    ∙ ap (λ (r : Row). state_after (expanded_key r.key) 2 (r.octets ++ c.args.last ∷ [])) c.self.view_is

pub returns-clause-second : goal.returns-clause-second
returns-clause-second c =
    let p = c.self.inside in
    let n = c.args.last in
    ap octets_of (state_4 p.start p.first p.second _ c.towered.result c.substituted.result.0 c.substituted.result.1 _ c.substituted-2.result.0 c.substituted-2.result.1
    n (n + 1) (n + 2) (n + 3) c.self.invariant.start_long c.self.invariant.first_long (wrapped n (omega arith))
    c.towered.ensures.tower c.substituted.ensures.once c.substituted.ensures.twice refl c.substituted-2.ensures.once c.substituted-2.ensures.twice)
    ∙ c.self.invariant.at_4 (c.args.last + 1) (omega arith)
    ∙ ap (λ (r : Row). state_after (expanded_key r.key) 2 (r.octets ++ (c.args.last + 1) ∷ [])) c.self.view_is

pub returns-clause-third : goal.returns-clause-third
returns-clause-third c =
    let p = c.self.inside in
    let n = c.args.last in
    ap octets_of (state_8 p.start p.first p.second _ c.towered.result c.substituted.result.0 c.substituted.result.1 _ c.substituted-2.result.0 c.substituted-2.result.1
    n (n + 1) (n + 2) (n + 3) c.self.invariant.start_long c.self.invariant.first_long (wrapped n (omega arith))
    c.towered.ensures.tower c.substituted.ensures.once c.substituted.ensures.twice refl c.substituted-2.ensures.once c.substituted-2.ensures.twice)
    ∙ c.self.invariant.at_8 (c.args.last + 2) (omega arith)
    ∙ ap (λ (r : Row). state_after (expanded_key r.key) 2 (r.octets ++ (c.args.last + 2) ∷ [])) c.self.view_is

pub returns-clause-fourth : goal.returns-clause-fourth
returns-clause-fourth c =
    let p = c.self.inside in
    let n = c.args.last in
    ap octets_of (state_12 p.start p.first p.second _ c.towered.result c.substituted.result.0 c.substituted.result.1 _ c.substituted-2.result.0 c.substituted-2.result.1
    n (n + 1) (n + 2) (n + 3) c.self.invariant.start_long c.self.invariant.first_long (wrapped n (omega arith))
    c.towered.ensures.tower c.substituted.ensures.once c.substituted.ensures.twice refl c.substituted-2.ensures.once c.substituted-2.ensures.twice)
    ∙ c.self.invariant.at_12 (c.args.last + 3) (omega arith)
    ∙ ap (λ (r : Row). state_after (expanded_key r.key) 2 (r.octets ++ (c.args.last + 3) ∷ [])) c.self.view_is
