use Rattle.uefi_hii.specs.Views.{peeked_pairs}
use Rattle.uefi_hii.proofs.Elements.{takes_element}
use Rattle.uefi_hii.proofs.reading.read_element.Goals as goal

pub returns : goal.returns
returns g c =
    takes_element (peeked_pairs c.args.pairs.now) (peeked_pairs c.take_number.new.pairs)
    (peeked_pairs c.take_number-2.new.pairs) (peeked_pairs c.take_value.new.pairs)
    (peeked_pairs c.take_nvconfig.new.pairs)
    (record {
      offset = c.in-Some.offset;
      width = c.in-Some-take_number.width;
      value = c.in_ok-value.value;
      nvconfig =
          c.in_ok-nvconfig.nvconfig;
    }) c.in-Some-take_value.text.now
    c.in-Some.ensures c.in-Some-take_number.ensures c.in-Some-take_value.ensures c.in_ok-value.ensures
    c.in_ok-nvconfig.ensures
