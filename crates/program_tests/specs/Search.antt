-- What is searched for.
use Rattle.block_decoder.specs.declared.decoding.Decoding.{Decoding}
use Rattle.program_tests.specs.declared.plain_blocks.Search.{Search}

-- the blocks of this decoding
abbrev pub sought : Search → Decoding
sought search =
    record { answers = search.answers; width = search.width; degree = search.degree; agreement = search.agreement }
