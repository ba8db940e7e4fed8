-- What each output holds is the exact release set of what its links brought there.
use Rattle.std.proofs.Common.{◌≡◌, ◌∙◌, ◌<◌, ◌≤◌, ℕ, List, [], length, slice_get, get_or, Bool, true, false, Option, Some}
use Rattle.std.proofs.Common.{refl, ap, sym, subst, arith}
use Rattle.std.specs.Prelude.{unwrap_or}
use Rattle.std.specs.List.{concat}
use Rattle.std.proofs.lemmas.List.{length-map}
use Rattle.std.proofs.lemmas.Option.{slice_get_within}
use Rattle.outside_io.specs.Causes.{Rose}
use Rattle.outside_host.specs.Shelf.{Shelf}
use Rattle.outside_host.specs.declared.host.Place.TheVariants.{Here, Back}
use Rattle.receiver_rules.specs.declared.limits.Limits.{Limits}
use Rattle.receiver_rules.specs.Sent.{AreDeliveriesOf}
use Rattle.receiver_rules.specs.SentEpochs.{AreTransfersOf, sent_epochs}
use Rattle.receiver_rules.specs.SentEpochs.{reached_payloads as payloads_of_epochs}
use Rattle.rist_desk.specs.declared.step.Step.{Step}
use Rattle.rist_desk.specs.declared.worker.Worker.{Worker}
use Rattle.rist_desk.specs.Desk.{Given, is_cut_off}
use Rattle.rist_desk.specs.Serving.{IsFeed}
use Rattle.rist_fan.specs.declared.flow.Came.{Came}
use Rattle.rist_fan.specs.declared.flow.Flow.{Flow}
use Rattle.desk_run.specs.Exact.{reached_payloads}
use Rattle.desk_run.specs.Run.{IsExact}
use Rattle.desk_run.specs.Workers.{clock_of, link_of}
use Rattle.fan_run.specs.Brought.{AreBroughtAt}
use Rattle.fan_run.specs.Concluded.{own_at, seen_by}
use Rattle.fan_run.specs.Run.{ToldRows, rows_of}
use Rattle.rist_words.specs.CommandLine.{FanCommand}
use Rattle.run_parts.specs.Objects.{Tells, TellsLive}
use Rattle.run_parts.specs.Sessions.{session_read}
use Rattle.run_parts.specs.declared.status.Status.{Status}
use Rattle.run_parts.proofs.PlaceLemmas.{at_place, same_back, same_here}
use Rattle.run_links.proofs.BroughtLemmas.{before_is}
use Rattle.fan_desk.specs.Origin.{given_at}
use Rattle.run_fan.specs.Brought.{AreOfLink}
use Rattle.run_fan.specs.Complete.{IsWritten}
use Rattle.run_fan.specs.Fanned.{Fanned}
use Rattle.run_fan.specs.Reached.{FansReached}
use Rattle.run_fan.specs.Sessions.{fan_limits, limits_fanned, output_name}
use Rattle.run_fan.proofs.MakingLemmas.{part_at}
use Rattle.run_fan.proofs.RunLemmas.{given_is, rose_by, worker_part}

some_same : {A : Type 0} (x y : A) → Some x ≡ Some y → x ≡ y
some_same x y e = cc (e)

module _ {I O E L C : Type 0} (tells : Tells I O E) (live : TellsLive L C) (old new : Shelf I O E L C) (c : FanCommand) (status : Status) (r : Fanned tells live old new c status) where
  abbrev given : ℕ → Given
  given = given_at tells.contents tells.write_faults r.flows

  -- what stands at a place, before and after, and what came of the end there
  pub flow_at : (v : ℕ) → v < length c.ports → (flow : Flow O) × (slice_get r.flows v ≡ Some flow)
  flow_at v low = at_place r.flows v (subst (λ n. v < n) (sym r.places) low)

  pub left_at : (v : ℕ) → v < length c.ports → (flow : Flow O) × (slice_get r.left v ≡ Some flow)
  left_at v low = at_place r.left v (subst (λ n. v < n) (sym (r.run.places.0 ∙ r.places)) low)

  pub came_at : (v : ℕ) → v < length c.ports → (one : Came) × (slice_get r.came v ≡ Some one)
  came_at v low = at_place r.came v (subst (λ n. v < n) (sym (r.run.places.1 ∙ r.places)) low)

  -- a place that was cut off had a failed write
  pub rose_at : (v : ℕ) (low : v < length c.ports) → is_cut_off (came_at v low).0.answer ≡ true → Rose (tells.write_faults (flow_at v low).0.sink) (tells.write_faults (left_at v low).0.sink)
  rose_at v low cut =
      let flow = flow_at v low in
      let left = left_at v low in
      let one = came_at v low in
      let k = r.run.concluded.each v left.0 one.0 left.1 one.1 in
      subst (λ (n : ℕ). Rose n (tells.write_faults left.0.sink)) (ap (λ (g : Given). g.faults) (given_is tells.contents tells.write_faults r.flows v flow.0 flow.1))
      (rose_by (is_cut_off one.0.answer) (given v).faults (tells.write_faults left.0.sink) cut k.concluded.cause)

  -- no place was cut off to which no write failed
  pub sound_at : (v : ℕ) (low : v < length c.ports) → IsWritten tells old new c v → is_cut_off (came_at v low).0.answer ≡ false
  sound_at v low written = by_cut (is_cut_off (came_at v low).0.answer) refl
    where
      by_cut : (b : Bool) → is_cut_off (came_at v low).0.answer ≡ b → is_cut_off (came_at v low).0.answer ≡ false
      by_cut false e = e
      by_cut true e =
          let flow = flow_at v low in
          let left = left_at v low in
          absurd (written flow.0.sink left.0.sink (r.took v flow.0 flow.1) (r.gave v left.0 left.1) (rose_at v low e))

  abbrev own : ℕ → List (List Step)
  own v = own_at v (rows_of r.run.are)

  -- ---- what was brought

  many_own : (v : ℕ) → length (own v) ≡ length c.links
  many_own v =
      length-map (rows_of r.run.are) (seen_by v) ∙ (length-map r.run.are (λ (w : Worker L C ToldRows). unwrap_or w.trace.rows [])
      ∙ (r.run.as_many ∙ (sym (length-map r.run.were link_of) ∙ (ap length r.run.links_had ∙ r.link_count))))

  of_link : (v : ℕ) (low : v < length c.ports) → is_cut_off (came_at v low).0.answer ≡ false → (place : ℕ) (link : L) (clock : C) (steps : List Step) → old.links place ≡ Here link → old.clocks place ≡ Here clock
      → slice_get (own v) place ≡ Some steps → AreOfLink live c v place link clock steps
  of_link v low sound place link clock steps here there at f feed =
      let inside : place < length c.links = subst (λ n. place < n) (many_own v) (slice_get_within (own v) place steps at) in
      let links_in : place < length r.links_were = subst (λ n. place < n) (sym r.link_count) inside in
      let clocks_in : place < length r.clocks_were = subst (λ n. place < n) (sym r.clock_count) inside in
      let workers : length r.run.were ≡ length c.links = sym (length-map r.run.were link_of) ∙ (ap length r.run.links_had ∙ r.link_count) in
      let less : place < length r.run.were = subst (λ n. place < n) (sym workers) inside in
      let before = at_place r.run.were place less in
      let after = at_place r.run.are place (subst (λ n. place < n) (sym r.run.as_many) less) in
      let link_is : before.0.link ≡ link =
      sym (worker_part link_of r.run.were r.links_were place before.0 r.run.links_had less before.1)
      ∙ same_here (get_or r.links_were place before.0.link) link (sym (r.links.took place before.0.link links_in) ∙ here) in
      let clock_is : before.0.clock ≡ clock =
      sym (worker_part clock_of r.run.were r.clocks_were place before.0 r.run.clocks_had less before.1)
      ∙ same_here (get_or r.clocks_were place before.0.clock) clock (sym (r.clocks.took place before.0.clock clocks_in) ∙ there) in
      let fed : IsFeed f (session_read c.session) place (limits_fanned c) (live.moments before.0.clock) (live.line.reads before.0.link) (live.line.knows before.0.link) =
      subst (λ (x : C). IsFeed f (session_read c.session) place (limits_fanned c) (live.moments x) (live.line.reads before.0.link) (live.line.knows before.0.link)) (sym clock_is)
      (subst (λ (x : L). IsFeed f (session_read c.session) place (limits_fanned c) (live.moments clock) (live.line.reads x) (live.line.knows x)) (sym link_is) feed) in
      let rows : slice_get (rows_of r.run.are) place ≡ Some (unwrap_or after.0.trace.rows []) =
      part_at (λ (w : Worker L C ToldRows). unwrap_or w.trace.rows []) r.run.are (rows_of r.run.are) place after.0 refl after.1 in
      let same : seen_by v (unwrap_or after.0.trace.rows []) ≡ steps =
      some_same (seen_by v (unwrap_or after.0.trace.rows [])) steps (sym (part_at (seen_by v) (rows_of r.run.are) (own v) place (unwrap_or after.0.trace.rows []) refl rows) ∙ at) in
      subst (AreBroughtAt v c.ports f) same (r.run.brought v (came_at v low).0 (came_at v low).1 sound place before.0 after.0 before.1 after.1 f fed)

  -- ---- what was reached

  limits_at : (v : ℕ) → v < length c.ports → (given v).settings.limits ≡ fan_limits c
  limits_at v low =
      let flow = flow_at v low in
      let sealer = at_place r.sealers v (subst (λ n. v < n) (sym r.sealer_count) low) in
      ap (λ (g : Given). g.settings.limits) (given_is tells.contents tells.write_faults r.flows v flow.0 flow.1)
      ∙ ap (λ s. s.limits) (r.set v flow.0 sealer.0 flow.1 sealer.1).settings

  contents_at : (v : ℕ) (low : v < length c.ports) (k : Option (List ℕ)) → k ≡ tells.contents (left_at v low).0.sink → (filled : O) (octets : List ℕ) → new.sinks (output_name c v) ≡ Back filled → tells.contents filled ≡ Some octets
      → k ≡ Some octets
  contents_at v low k is filled octets back told =
      let left = left_at v low in
      is ∙ (ap tells.contents (same_back left.0.sink filled (sym (r.gave v left.0 left.1) ∙ back)) ∙ told)

  pub fanned_reached : 1 ≤ c.receiver.delay → (v : ℕ) → v < length c.ports → IsWritten tells old new c v → FansReached tells live old new c v
  fanned_reached some v low written =
      let left = left_at v low in
      let one = came_at v low in
      let sound = sound_at v low written in
      let k = r.run.concluded.each v left.0 one.0 left.1 one.1 in
      let limits = limits_at v low in
      let delay : 1 ≤ (given v).settings.limits.playout_delay = subst (λ (l : Limits). 1 ≤ l.playout_delay) (sym limits) (omega (arith, some)) in
      let exact : IsExact (given v) k.concluded.desk (own v) left.0.receiver.counts = k.exact sound delay in
      let before = before_is k.concluded.desk.kept exact.received.before exact.received.whole.ended k.concluded.tells in
      let history = unwrap_or exact.received.before [] in
      let holds = contents_at v low k.concluded.desk.contents k.concluded.contents_are in
      record {
        brought = record {
          history = history;
          own = own v;
          many = many_own v;
          agree = exact.received.agree;
          of_links = of_link v low sound;
        };
        reached = λ filled octets p run back told is steady stays honest.
            subst
            (λ (l : Limits). l.drift ≡ false → AreDeliveriesOf l p run → octets ≡ concat (reached_payloads l p run)) limits
            (λ stays honest. exact.reached history octets p run before (holds filled octets back told) is steady stays honest) stays honest;
        epochs = λ filled octets streams run back told is steady are.
            subst
            (λ (l : Limits). AreTransfersOf l streams run → octets ≡ concat (payloads_of_epochs streams (sent_epochs l streams run))) limits
            (λ are. exact.epochs history octets streams run before (holds filled octets back told) is steady are) are;
      }
