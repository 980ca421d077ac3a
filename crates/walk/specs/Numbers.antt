-- What the walk's answer says in the numbers that document 01 lists: the public call's contract speaks of these. Assumes nothing.
use Rattle.std.specs.Prelude.{Result, Ok, Err}
use Rattle.terms.specs.Refusals.{no_of, number_of, first_of, second_of}
use Rattle.terms.specs.declared.Refused.{Refused}
use Rattle.walk.specs.Walk.{no_header}
use Rattle.walk.specs.declared.Accepted.{Accepted}
use Rattle.walk.specs.declared.Walked.{Walked}

abbrev pub numbers_of : Result Accepted Refused → Walked
numbers_of (Ok a) = record {
  status = 0;
  place = 0;
  first = 0;
  second = 0;
  header = a.header;
  events = a.events;
  operands = a.operands;
}
numbers_of (Err r) = record {
  status = number_of (no_of r.reason);
  place = r.place;
  first = first_of (no_of r.reason);
  second = second_of (no_of r.reason);
  header = no_header;
  events = 0;
  operands = 0;
}
