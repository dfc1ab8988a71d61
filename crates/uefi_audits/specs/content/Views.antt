-- What values stand for: words that contracts name them by.
use Rattle.std.specs.Prelude.{option_map}
use Rattle.uefi_path.specs.LoadOptionViews.{load_option_of}
use Rattle.uefi_path.specs.Views.{path_nodes}
use Rattle.tcg_event.specs.BootOrderViews.{order_of}
use Rattle.tcg_event.specs.GptViews.{gpt_of}
use Rattle.tcg_event.specs.SignatureViews.{lists_of, signature_of}
use Rattle.tcg_event.specs.Views.{blob_of, described_of, image_of, text_of, variable_of, version_of}
use Rattle.uefi_tcg.specs.v2.Views.{header_of}
use Rattle.uefi_audits.specs.content.Content as contents
use Rattle.uefi_audits.specs.content.Value as values
use Rattle.uefi_audits.specs.declared.content.EventContent.{EventContent}
use Rattle.uefi_audits.specs.declared.content.EventContent.TheVariants.{Unread, Text, Separator, Locality, Header, LoaderText, CrtmVersion, Blob, DescribedBlob, Tagged, Gpt}
use Rattle.uefi_audits.specs.declared.content.EventContent.TheVariants.{Variable, BootOption, BootOrder, SignatureLists, Signature, Image}

-- What data say.
abbrev pub content_of : EventContent → contents.Content
content_of Unread = contents.unread
content_of (Text text) = contents.text text.now
content_of (Separator number) = contents.separator number
content_of (Locality number) = contents.locality number
content_of (Header header) = contents.header (header_of header)
content_of (LoaderText text) = contents.loader_text (text_of text)
content_of (CrtmVersion version) = contents.crtm_version (version_of version)
content_of (Blob blob) = contents.blob (blob_of blob)
content_of (DescribedBlob described) = contents.described_blob (described_of described)
content_of (Tagged tagged) = contents.tagged tagged.split.0.0 tagged.split.0.1
content_of (Gpt gpt) = contents.gpt (gpt_of gpt)
content_of (Variable variable) = contents.variable (variable_of variable) values.unread
content_of (BootOption variable option) = contents.variable (variable_of variable) (values.boot_option (load_option_of option))
content_of (BootOrder variable order) = contents.variable (variable_of variable) (values.boot_order (order_of order))
content_of (SignatureLists variable lists) = contents.variable (variable_of variable) (values.signature_lists (lists_of lists))
content_of (Signature variable signature) = contents.variable (variable_of variable) (values.signature (signature_of signature))
content_of (Image image path) = contents.image (image_of image) (option_map path_nodes path)
