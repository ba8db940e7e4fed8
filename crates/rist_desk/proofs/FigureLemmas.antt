-- The figures of a desk's receiver are those of its steps.
use Rattle.std.proofs.Common.{◌≡◌, ℕ, Bool, List, reverse, Option, option_map, sym, ◌∙◌, subst}
use Rattle.outside_net.specs.declared.figures.ReceiverFigures.{ReceiverFigures}
use Rattle.link_channels.specs.declared.channel.Channel.{Channel}
use Rattle.outside_net.specs.Links.{Answer}
use Rattle.rist_desk.specs.Links.{IsKept}
use Rattle.rist_reporter.specs.Control.{ControlSettings}
use Rattle.rist_ends.specs.declared.told.Told.{Told}
use Rattle.rist_ends.specs.declared.outcome.Outcome.{Outcome}
use Rattle.rist_ends.specs.Figures.{AreFiguresOf, figures_of}
use Rattle.rist_ends.proofs.FigureLemmas.{figures_are}
use Rattle.rist_desk.specs.declared.step.Step.{Step}
use Rattle.rist_desk.specs.Steps.{history_of}
use Rattle.rist_desk.specs.Made.{step_after, steps_with}
use Rattle.rist_desk.specs.Desk.{DeskState, Given, IsDesk, StandsFor, AreFiguresAfter, AreFiguresFor, AreFiguresThere}

pub figures_after : (given : Given) (d : DeskState) (steps : List Step) (f : ReceiverFigures) → IsDesk given d → StandsFor given d steps → f ≡ figures_of d.receiver → AreFiguresAfter given steps f
figures_after given d steps f desk s is = record {
  legal = s.legal;
  are = λ live. subst (λ (x : ReceiverFigures). AreFiguresOf x given.settings (history_of steps)) (sym is)
      (subst (λ (c : ControlSettings). AreFiguresOf (figures_of d.receiver) c (history_of steps)) desk.settings
      (figures_are d.receiver (history_of steps) s.receiver (λ failed. live (sym s.phase ∙ failed))));
}

pub figures_there : (given : Given) (told : Told) (outcome : Outcome) (d e : DeskState) (f : ReceiverFigures) → IsDesk given d → IsDesk given e
    → e.kept ≡ option_map (steps_with (step_after told outcome)) d.kept → f ≡ figures_of e.receiver → AreFiguresThere given told outcome f
figures_there given told outcome d e f old new kept is = record {
  before = d.kept;
  tells = old.tells_steps;
  after = λ list some. figures_after given e (reverse list) f new (new.stands list (kept ∙ some)) is;
}

pub figures_for : (given : Given) (told : Told) (outcome : Outcome) (f : ReceiverFigures) → AreFiguresThere given told outcome f → AreFiguresFor given f
figures_for given told outcome f there = record { told = told; outcome = outcome; there = there }

-- a link that was kept twice
pub kept_twice : {L : Type 0} {reads : L → Option (ℕ → Answer)} {ends_of : L → ℕ} {knows : L → Channel → Bool} {a b c : L} → IsKept reads ends_of knows a b → IsKept reads ends_of knows b c → IsKept reads ends_of knows a c
kept_twice first then_ = record { reads_are = then_.reads_are ∙ first.reads_are; ends_are = then_.ends_are ∙ first.ends_are; peers = λ channel. then_.peers channel ∙ first.peers channel }
