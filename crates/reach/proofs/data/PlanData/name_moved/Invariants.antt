use Rattle.std.proofs.Common.{◌≡◌, ◌≤◌, map, vec_len, vec_capacity}
use Rattle.tables.specs.View.{number}
use Rattle.reach.specs.Data.{sets_in, earlier_in}
use Rattle.reach.specs.Moved.{passing, differs}
use Rattle.reach.proofs.data.PlanData.name_moved.Given as goal

abbrev pub invariant-loop-y : goal.invariant-loop-y
invariant-loop-y l = record {
  few : vec_len l.moved ≤ l.y;
  room : vec_capacity l.moved ≡ vec_capacity l.initial.moved;
  names : map number l.moved.items ≡ passing (differs l.fn.self.sets.entries (earlier_in l.fn.self) (sets_in l.fn.self)) 0 l.y;
}
