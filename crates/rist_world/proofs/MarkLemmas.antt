-- The marks of what the sender put.
use Rattle.std.proofs.Common.{◌≡◌, ◌∙◌, ℕ, zero, suc, ◌+◌, ◌<◌, ◌≤◌, Bool, true, false, List, [], ◌∷◌, ◌++◌, length, take, drop, map, set, get_or, Option, None, refl, sym, ap, subst, arith, append-nil, slice_get}
use Rattle.std.specs.Prelude.{nat_lt, ◌==◌, if◌then◌else◌}
use Rattle.std.proofs.Math.Seq.{drop-append_seam}
use Rattle.std.proofs.lemmas.Bool.{ltb-true, ltb-false, eqb-true, eqb-false}
use Rattle.std.proofs.lemmas.List.{length-map, map-append, length-take, length-take-le, drop_all, length-set, take_more, drop-append-le, append_assoc, get_or_past, get_or-set_same, get_or-set_other}
use Rattle.std.proofs.lemmas.Option.{slice_get-get_or}
use Rattle.link_channels.specs.declared.channel.Channel.TheVariants as channels
use Rattle.outside_net.specs.Links.{Datagram}
use Rattle.rist_wire.specs.declared.session.Session.{Session}
use Rattle.world_rules.specs.Counts.{media_of, media_if}
use Rattle.world_rules.specs.World.{Setup, Course, links_of, forward_on, forward_at}
use Rattle.rist_world.specs.World.{WireState, WorldState, IsWorldAfter, AreMarked, marked, none}
use Rattle.rist_world.specs.Counted.{media_at}

-- ---- a link's marks

-- where all that was put before is marked, so is all that is put now
pub marked_since : (session : Session) (marks : List (Option Bool)) (olds more puts : List Datagram) → marks ≡ map (media_of session) olds → puts ≡ olds ++ more → marked session marks puts ≡ map (media_of session) puts
marked_since session marks olds more puts is grows =
    subst (λ ps. marked session marks ps ≡ map (media_of session) ps) (sym grows)
    (subst (λ ms. marked session ms (olds ++ more) ≡ map (media_of session) (olds ++ more)) (sym is)
    (ap (λ n. map (media_of session) olds ++ map (media_of session) (drop n (olds ++ more))) (length-map olds (media_of session))
    ∙ ap (λ ds. map (media_of session) olds ++ map (media_of session) ds) (drop-append_seam olds more)
    ∙ sym (map-append (media_of session) olds more)))

-- no datagram in place of one that isn't there
no_datagram : Datagram
no_datagram = record { channel = channels.Media; octets = [] }

-- nothing was put before the first place behind the marks
pub none_since : (session : Session) (marks : List (Option Bool)) (puts : List Datagram) → marks ≡ marked session marks (take (length marks) puts)
none_since session marks puts =
    sym (append-nil marks) ∙ ap (λ ds. marks ++ map (media_of session) ds) (sym (drop_all (length marks) (take (length marks) puts) (omega (arith, length-take (length marks) puts))))

-- one more is marked
pub one_marked : (session : Session) (olds marks new : List (Option Bool)) (puts : List Datagram) (place : ℕ) → length olds ≤ place → place < length puts → marks ≡ marked session olds (take place puts)
    → new ≡ marks ++ media_if session (slice_get puts place) ∷ [] → new ≡ marked session olds (take (place + 1) puts)
one_marked session olds marks new puts place from within is more =
    more
    ∙ ap (λ m. marks ++ media_if session m ∷ []) (slice_get-get_or puts place no_datagram within)
    ∙ ap (λ ms. ms ++ media_of session (get_or puts place no_datagram) ∷ []) is
    ∙ append_assoc olds (map (media_of session) (drop (length olds) (take place puts))) _
    ∙ ap (λ ms. olds ++ ms) (sym (map-append (media_of session) (drop (length olds) (take place puts)) (get_or puts place no_datagram ∷ [])))
    ∙ ap (λ ds. olds ++ map (media_of session) ds) (sym (drop-append-le (length olds) (take place puts) (get_or puts place no_datagram ∷ []) (omega (arith, from, within, length-take-le place puts))))
    ∙ ap (marked session olds) (sym (take_more puts place no_datagram within))

-- ---- the marks of all links

-- the marks of the links below one are made, and the others are as they were
pub record AreMadeBelow (session : Session) (old : List (List (Option Bool))) (wires : List WireState) (new : List (List (Option Bool))) (link : ℕ) : Type 0 where
  pub count : length new ≡ length old
  pub made : (k : ℕ) → k < link → k < length old → get_or new k [] ≡ marked session (get_or old k []) (get_or wires k none).put
  pub rest : (k : ℕ) → link ≤ k → get_or new k [] ≡ get_or old k []

pub link_marked : (session : Session) (old : List (List (Option Bool))) (wires : List WireState) (before after : List (List (Option Bool))) (link : ℕ) (marks : List (Option Bool)) → AreMadeBelow session old wires before link → link < length before
    → marks ≡ marked session (get_or before link []) (get_or wires link none).put → after ≡ set before link marks → AreMadeBelow session old wires after (link + 1)
link_marked session old wires before after link marks is within made set_is =
    subst (λ ms. AreMadeBelow session old wires ms (link + 1)) (sym set_is) (record {
      count = length-set before link marks ∙ is.count;
      made = λ k below among. by k below among (k == link) refl;
      rest = λ k from. get_or-set_other before link k marks [] (λ same. absurd (omega (arith, same, from))) ∙ is.rest k (omega (arith, from));
    })
  where
    by : (k : ℕ) → k < link + 1 → k < length old → (c : Bool) → (k == link) ≡ c → get_or (set before link marks) k [] ≡ marked session (get_or old k []) (get_or wires k none).put
    by k below among true same =
        subst (λ n. get_or (set before link marks) n [] ≡ marked session (get_or old n []) (get_or wires n none).put) (sym (eqb-true _ _ same))
        (get_or-set_same before link marks [] within ∙ made ∙ ap (λ ms. marked session ms (get_or wires link none).put) (is.rest link (omega arith)))
    by k below among false other =
        get_or-set_other before link k marks [] (eqb-false _ _ other) ∙ is.made k (omega (arith, below, eqb-false _ _ other)) among

-- a link that has no marks
pub link_absent : (session : Session) (old : List (List (Option Bool))) (wires : List WireState) (new : List (List (Option Bool))) (link : ℕ) → AreMadeBelow session old wires new link → length new ≤ link → AreMadeBelow session old wires new (link + 1)
link_absent session old wires new link is beyond = record {
  count = is.count;
  made = λ k below among. is.made k (omega (arith, among, beyond, is.count)) among;
  rest = λ k from. is.rest k (omega (arith, from));
}

-- the same where the marks were lent as a slice, and came back
pub lent_marks : (session far : Session) (old lent new back : List (List (Option Bool))) (wires : List WireState) → session ≡ far → lent ≡ old → back ≡ new → AreMarked session lent wires new → AreMarked far old wires back
lent_marks session far old lent new back wires same was now marks =
    subst (λ ms. AreMarked far old wires ms) (sym now) (subst (λ ms. AreMarked far ms wires new) was (subst (λ s. AreMarked s lent wires new) same marks))

-- ---- what they tell

-- the mark of a datagram that was put
mark_there : (session : Session) (ds : List Datagram) (place : ℕ) → get_or (map (media_of session) ds) place None ≡ media_if session (slice_get ds place)
mark_there session [] place = refl
mark_there session (d ∷ ds) zero = refl
mark_there session (d ∷ ds) (suc place) = mark_there session ds place

pub media_is : (setup : Setup) (w : WorldState) (course : Course) (link place : ℕ) → IsWorldAfter setup w course → media_at w link place ≡ media_if setup.session (forward_at setup course link place)
media_is setup w course link place is = by (nat_lt link (links_of setup)) refl
  where
    by : (c : Bool) → nat_lt link (links_of setup) ≡ c → media_at w link place ≡ media_if setup.session (if c then slice_get (forward_on setup course link) place else None)
    by true among = ap (λ ms. get_or ms place None) (is.media.marks link (ltb-true _ _ among)) ∙ mark_there setup.session (forward_on setup course link) place
    by false beyond = ap (λ ms. get_or ms place None) (get_or_past w.media link [] (omega (arith, is.media.links, ltb-false _ _ beyond)))
