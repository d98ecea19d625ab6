-- `sheet::validate::all_zero` meets its contract: the test holds of each byte.
use Rattle.std.proofs.Common.{◌≡◌, ◌↔◌, rules, IsTrue, EachIndex, get_or}
use Rattle.std.proofs.iter.runs.Made.{chains}
use Rattle.sheet.proofs.validate.Names.{zeros_each}
use Rattle.sheet.proofs.validate.all_zero.Goals as goal

pub returns : goal.returns
returns c =
    let e : IsTrue c.all.result ↔ EachIndex c.args.bytes.now (λ k. get_or c.args.bytes.now k 0 ≡ 0) = search (rules, chains) in
    zeros_each c.all.result c.args.bytes.now e
