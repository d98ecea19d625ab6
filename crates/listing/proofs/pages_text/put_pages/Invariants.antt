-- The pages that stand, before those that are left, are those that are asked.
use Rattle.std.proofs.Common.{suc, ◌*◌, ◌-◌, ◌≤◌, ◌≡◌, ◌++◌, take}
use Rattle.listing.specs.Pages.{pages_from, all_pages}
use Rattle.listing.proofs.pages_text.put_pages.Given as goal

abbrev pub invariant-loop-k : goal.invariant-loop-k
invariant-loop-k l = record {
  within : l.k ≤ l.last;
  stands : take (3966 * (l.k - 1)) l.text ++ pages_from l.paged.sheet.now l.k (suc (l.last - l.k)) ≡ all_pages l.paged.sheet.now;
}
