use mathlib.Core.Path.{sym, ap, ◌∙◌}
use Prim.Native.Nat.{◌+◌}
use native.Mathlib.Omega.{arith}
use Rattle.counting.proofs.Parts.{front_length}
use Rattle.division.specs.Shares.{share_sum}
use Rattle.tables.proofs.Tabled.{street-ready}
use Rattle.balanced_results.proofs.ListShares.{problem, for-all}
use Rattle.balanced_results.proofs.first.over_list.Goals as goal

pub begin-requires : goal.begin-requires
begin-requires c =
    let t = c.args.valued.town.town in
    let ok = c.args.valued.town.accepted in
    let p = c.requires in
    let shared = c.share_out.ensures in
    record {
      problem = problem _ _ (sym p.division_len) (street-ready ok c.args.valued.filled) shared.size shared.nobody;
      shares_value = (
        ap share_sum shared.right ∙ for-all t.n p.shareable ∙ sym p.division_len,
        front_length (t.m + 1) 65 (omega (arith, ok.few-sites)) ∙ sym shared.size,
      );
    }
