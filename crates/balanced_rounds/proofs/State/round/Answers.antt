use native.Mathlib.Omega.{arith}
use mathlib.Core.Path.{ap, ◌∙◌}
use Prim.Native.Nat.{ℕ}
use lib.Seq.{length-take-le}
use Rattle.tables.specs.Tables.{value_in}
use Rattle.balanced_plan.specs.Rounds.{taken}
use Rattle.balanced_rounds.specs.Lines.{state_of}
use Rattle.balanced_rounds.proofs.Rounding.{choice-flagged}
use Rattle.balanced_rounds.proofs.State.round.Goals as goal

pub choose-site-requires : goal.choose-site-requires
choose-site-requires c =
    let t = c.args.table in
    let whole = length-take-le t.n c.args.self.division (omega (arith, t.street_table.few-streets, c.requires.0.division-size)) in
    (whole, c.requires.2, c.requires.0.flags.size)

pub returns : goal.returns
returns c =
    let t = c.args.table in
    let more = c.taking-self.ensures in
    record {
      held = more.held;
      state = λ key o. more.state key o ∙ ap (λ (x : ℕ). taken key c.args.q (state_of t.n c.args.self) x)
          (c.choose-site.ensures.choice key o
          ∙ choice-flagged (value_in t.values.now t.m) key t.n t.m c.args.q c.requires.0 t.street_table.few-sites);
    }
