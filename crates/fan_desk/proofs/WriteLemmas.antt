-- Datagrams of one place after another.
use Rattle.std.proofs.Common.{◌≡◌, ◌<◌, ℕ, ◌+◌, List, [], ◌∷◌, ◌++◌, length, take, drop, Bool, Option, None, Some, option_map, refl, ap, sym, ◌∙◌, subst, arith, append_assoc}
use Rattle.std.specs.Prelude.{slice_index_or}
use Rattle.std.proofs.lemmas.List.{append-nil, take-append-drop, take_all, take_more}
use Rattle.std.proofs.lemmas.List.Concat.{flat_map-append}
use Rattle.link_channels.specs.declared.channel.Channel.{Channel}
use Rattle.outside_net.specs.Links.{Datagram}
use Rattle.rist_reporter.specs.Made.{OutOf}
use Rattle.rist_desk.specs.Sending.{written, written_where}
use Rattle.rist_desk.specs.Links.{SentPart}
use Rattle.rist_fan.specs.declared.flow.Came.{Came}
use Rattle.fan_desk.specs.Made.{all_outs, outs_of_came}

-- what is written of two parts
pub written_both : (knows : Channel → Bool) (a b : List OutOf) → written knows (a ++ b) ≡ written knows a ++ written knows b
written_both knows [] b = refl
written_both knows (x ∷ a) b =
    ap (λ (l : List Datagram). written_where (knows x.channel) x ++ l) (written_both knows a b)
    ∙ sym (append_assoc (written_where (knows x.channel) x) (written knows a) (written knows b))

-- the datagrams of one place more
more_outs : (came : List Came) (v : ℕ) (d : Came) → v < length came → all_outs (take (v + 1) came) ≡ all_outs (take v came) ++ outs_of_came (slice_index_or came v d)
more_outs came v d low =
    ap all_outs (take_more came v d low)
    ∙ (flat_map-append outs_of_came (take v came) (slice_index_or came v d ∷ [])
    ∙ ap (λ (l : List OutOf). all_outs (take v came) ++ l) (append-nil (outs_of_came (slice_index_or came v d))))

-- what a link took of two parts
taken_both : (a b c : Option (List Datagram)) (xs ys : List Datagram) → b ≡ option_map (λ t. t ++ xs) a → c ≡ option_map (λ t. t ++ ys) b → c ≡ option_map (λ t. t ++ (xs ++ ys)) a
taken_both None b c xs ys e f = f ∙ ap (option_map (λ (t : List Datagram). t ++ ys)) e
taken_both (Some t) b c xs ys e f = f ∙ (ap (option_map (λ (l : List Datagram). l ++ ys)) e ∙ ap Some (append_assoc t xs ys))

pub taken_none : (a b : Option (List Datagram)) → b ≡ a → b ≡ option_map (λ t. t ++ []) a
taken_none None b e = e
taken_none (Some t) b e = e ∙ ap Some (sym (append-nil t))

pub same_peers : (one other : Channel → Bool) → ((c : Channel) → one c ≡ other c) → one ≡ other
same_peers one other h = λ i. λ x. h x i

-- the places before this one and then it were written
pub wrote_more : (knows now : Channel → Bool) (came : List Came) (v : ℕ) (d : Came) (first before after : Option (List Datagram)) → v < length came → ((c : Channel) → now c ≡ knows c)
    → before ≡ option_map (λ t. t ++ written knows (all_outs (take v came))) first
    → after ≡ option_map (λ t. t ++ written now (outs_of_came (slice_index_or came v d))) before
    → after ≡ option_map (λ t. t ++ written knows (all_outs (take (v + 1) came))) first
wrote_more knows now came v d first before after low same was is =
    let here = slice_index_or came v d in
    taken_both first before after (written knows (all_outs (take v came))) (written knows (outs_of_came here)) was
    (subst (λ (k : Channel → Bool). after ≡ option_map (λ t. t ++ written k (outs_of_came here)) before) (same_peers now knows same) is)
    ∙ ap (λ (l : List Datagram). option_map (λ t. t ++ l) first) (sym (written_both knows (all_outs (take v came)) (outs_of_came here)) ∙ ap (written knows) (sym (more_outs came v d low)))

-- all were
pub wrote_all : (knows : Channel → Bool) (came : List Came) (first after : Option (List Datagram)) → after ≡ option_map (λ t. t ++ written knows (all_outs (take (length came) came))) first
    → after ≡ option_map (λ t. t ++ written knows (all_outs came)) first
wrote_all knows came first after is =
    subst (λ (l : List Came). after ≡ option_map (λ t. t ++ written knows (all_outs l)) first) (take_all (length came) came (omega arith)) is

-- the places before this one were written, and of it a part
pub wrote_part : (knows now : Channel → Bool) (came : List Came) (v : ℕ) (d : Came) (first before after : Option (List Datagram)) → v < length came → ((c : Channel) → now c ≡ knows c)
    → before ≡ option_map (λ t. t ++ written knows (all_outs (take v came))) first
    → SentPart now (outs_of_came (slice_index_or came v d)) before after → SentPart knows (all_outs came) first after
wrote_part knows now came v d first before after low same was part =
    let here = slice_index_or came v d in
    let done = all_outs (take v came) in
    let behind = all_outs (drop (v + 1) came) in
    record {
      front = done ++ part.front;
      failed = part.failed;
      rest = part.rest ++ behind;
      outs_are = ap all_outs (sym (take-append-drop (v + 1) came))
          ∙ (flat_map-append outs_of_came (take (v + 1) came) (drop (v + 1) came)
          ∙ (ap (λ (l : List OutOf). l ++ behind) (more_outs came v d low ∙ ap (λ (l : List OutOf). done ++ l) part.outs_are)
          ∙ (append_assoc done (part.front ++ part.failed ∷ part.rest) behind
          ∙ (ap (λ (l : List OutOf). done ++ l) (append_assoc part.front (part.failed ∷ part.rest) behind)
          ∙ sym (append_assoc done part.front (part.failed ∷ (part.rest ++ behind)))))));
      taken =
          taken_both first before after (written knows done) (written knows part.front) was
          (subst (λ (k : Channel → Bool). after ≡ option_map (λ t. t ++ written k part.front) before) (same_peers now knows same) part.taken)
          ∙ ap (λ (l : List Datagram). option_map (λ t. t ++ l) first) (sym (written_both knows done part.front));
    }
