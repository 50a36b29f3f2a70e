use Rattle.std.proofs.Common.{◌≡◌, ◌≤◌, max, drop}
use Rattle.mon_parser.specs.Tokens.{most_open}
use Rattle.mon_parser.proofs.item.most_open.Given as goal

abbrev pub invariant-loop-token : goal.invariant-loop-token
invariant-loop-token l = record {
  whole : max l.most (most_open l.depth (drop l.token-index l.tokens)) ≡ most_open 0 l.tokens;
  few : l.depth ≤ l.token-index;
  within : l.depth ≤ l.most;
}
