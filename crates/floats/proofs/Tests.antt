-- Rules for `search` that turn what a branch told into the value of a test. Assumes nothing.
use borrow.Author.Tests.{eq-eqb, ne_eqb, le-leb, lt-leb, lt-ltb, le-ltb}

-- the fact of each branch is found among the fields of `c`
pub ruleset tests = (eq-eqb, ne_eqb, le-leb, lt-leb, lt-ltb, le-ltb)
