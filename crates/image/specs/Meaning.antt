-- What has to be believed of images: the definitions that public contracts cite, in the order of document 01.
pub mod Reading
