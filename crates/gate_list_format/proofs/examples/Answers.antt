use Rattle.std.proofs.Common.{refl}
use Rattle.std.specs.Fmt.{digits}
use Rattle.gate_list_format.specs.Lists.{written}
use Rattle.gate_list_format.specs.Reading.{reading, list_form}
use Rattle.gate_list_format.proofs.examples.Goals as goal

pub returns : goal.returns
unfolding reading list_form written digits
returns c = record { latch_read = refl; empty = refl; no_gates = refl; no_end = refl; extra = refl; cr = refl; word_first = refl; blank_number = refl; number_first = refl; lead = refl; early = refl; repeat_first = refl; bit = refl; heading_as_input = refl; word_before_end = refl; number_before_18 = refl; count_18 = refl; source_malformed = refl; source_unknown = refl; unknown_last = refl; reserved = refl; tab = refl; trailing = refl; zero_byte = refl; long_number = refl; name_16 = refl; name_17 = refl; wire_384 = refl; wire_385 = refl; word_before_wires = refl; number_before_wires = refl; one_pin_or = refl; latch_written = refl }
