use Rattle.std.proofs.Common.{inl, refl, lit<, arith}
use Rattle.program_tests.proofs.one_fetch.fetched.Goals as goal

pub fetch-requires-clause-plan : goal.fetch-requires-clause-plan
fetch-requires-clause-plan g c = record {
  numbers = record {
    scheme = inl refl;
    private = omega arith;
    few_private = omega arith;
    agreement = omega arith;
    few_agree = omega arith;
    servers = omega arith;
    few_servers = omega arith;
    all_agree = λ e. omega arith;
    all_answer = λ e. omega arith;
    session = lit< tt;
    shape = record { some_rows = omega arith; few_rows = omega arith; some_bytes = omega arith; few_bytes = omega arith; few_cells = omega arith };
    blocks = record {
      some_version = omega arith;
      two_versions = omega arith;
      some_blocks = omega arith;
      few_blocks = omega arith;
      one_block = λ e. refl;
      few_bytes = omega arith;
    };
  };
  private = omega arith;
  held_whole = λ e. refl;
}
