-- What a loaded image block says about an image, from what the code knows of it.
use Rattle.world_model.specs.Images.{BlockContents}
use Rattle.soft_pieces.specs.declared.image_block.ImageInfo.{ImageInfo}

abbrev pub contents_of : ImageInfo → BlockContents
contents_of info = record { parent = info.parent; device = info.device; base = info.base; size = info.size; subsystem = info.subsystem }
